-- The fields are compared in their order, and the first whose fault it is ends the walk.
use mathlib.Core.Path.{◌∙◌, sym}
use Rattle.layout.specs.Answers.{none_yet}
use Rattle.layout.specs.Primitives.{w16, w32}
use Rattle.layout.specs.Reading.{nowhere}
use Rattle.body_writing.proofs.Blaming.{number_here, number_next, only_here, only_past}
use Rattle.frame.specs.Answers.{of_request}
use Rattle.frame.specs.Walks.{front_shape}
use Rattle.frame.proofs.NamedWritten.{client_alone}
use Rattle.frame.proofs.naming_written.request_field.Goals as goal

pub returns-then-number_fault-e : goal.returns-then-number_fault-e
unfolding front_shape
returns-then-number_fault-e c = number_here _ _ nowhere 0 none_yet (of_request c.args.header) 0 w16 _ _ c.number_fault.ensures c.if-number_fault-e.true

pub returns-then-number_fault-e-2 : goal.returns-then-number_fault-e-2
unfolding front_shape
returns-then-number_fault-e-2 c = number_here _ _ nowhere 1 none_yet (of_request c.args.header) 1 w16 _ _ c.number_fault-2.ensures c.if-number_fault-e-2.true ∙ sym (number_next _ _ nowhere 0 none_yet (of_request c.args.header) 0 w16 _ _ c.number_fault.ensures c.if-number_fault-e.false)

pub returns-then-number_fault-e-3 : goal.returns-then-number_fault-e-3
unfolding front_shape
returns-then-number_fault-e-3 c = number_here _ _ nowhere 2 none_yet (of_request c.args.header) 2 w32 _ _ c.number_fault-3.ensures c.if-number_fault-e-3.true ∙ sym (number_next _ _ nowhere 0 none_yet (of_request c.args.header) 0 w16 _ _ c.number_fault.ensures c.if-number_fault-e.false ∙ number_next _ _ nowhere 1 none_yet (of_request c.args.header) 1 w16 _ _ c.number_fault-2.ensures c.if-number_fault-e-2.false)

pub returns-then-client_fault-e : goal.returns-then-client_fault-e
unfolding front_shape
returns-then-client_fault-e c = only_here _ _ _ nowhere 3 none_yet _ _ (c.client_fault.ensures ∙ client_alone _ _ c.args.header.client_id) c.if-client_fault-e.true ∙ sym (number_next _ _ nowhere 0 none_yet (of_request c.args.header) 0 w16 _ _ c.number_fault.ensures c.if-number_fault-e.false ∙ number_next _ _ nowhere 1 none_yet (of_request c.args.header) 1 w16 _ _ c.number_fault-2.ensures c.if-number_fault-e-2.false ∙ number_next _ _ nowhere 2 none_yet (of_request c.args.header) 2 w32 _ _ c.number_fault-3.ensures c.if-number_fault-e-3.false)

pub returns : goal.returns
unfolding front_shape
returns c = only_past _ _ _ nowhere 3 none_yet _ _ (c.client_fault.ensures ∙ client_alone _ _ c.args.header.client_id) c.if-client_fault-e.false ∙ sym (number_next _ _ nowhere 0 none_yet (of_request c.args.header) 0 w16 _ _ c.number_fault.ensures c.if-number_fault-e.false ∙ number_next _ _ nowhere 1 none_yet (of_request c.args.header) 1 w16 _ _ c.number_fault-2.ensures c.if-number_fault-e-2.false ∙ number_next _ _ nowhere 2 none_yet (of_request c.args.header) 2 w32 _ _ c.number_fault-3.ensures c.if-number_fault-e-3.false)
