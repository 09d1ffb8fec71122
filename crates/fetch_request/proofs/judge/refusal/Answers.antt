-- 13 comes before the own row's numbers, and these before the topics.
use mathlib.Core.Path.{◌∙◌, sym}
use Rattle.fetch_request.proofs.Judgement.{fault_bad, fault_lead, fault_limits, fault_topics, good_enough}
use Rattle.fetch_request.proofs.judge.refusal.Goals as goal

pub returns-then-not-is_good : goal.returns-then-not-is_good
returns-then-not-is_good c = fault_bad _ _ _ _ _ _ c.is_good.ensures c.if-not-is_good.true

pub returns-then-not-lead_fits : goal.returns-then-not-lead_fits
returns-then-not-lead_fits c = fault_lead _ _ _ _ _ _ c.is_good.ensures c.if-not-is_good.false _ c.lead_fits.ensures c.if-not-lead_fits.true

pub returns-then-not-limits_fit : goal.returns-then-not-limits_fit
returns-then-not-limits_fit c = fault_limits _ _ _ _ _ _ c.is_good.ensures c.if-not-is_good.false _ c.lead_fits.ensures c.if-not-lead_fits.false _ c.limits_fit.ensures c.if-not-limits_fit.true

pub topics_fault-requires : goal.topics_fault-requires
topics_fault-requires c = good_enough _ _ _ _ (sym c.is_good.ensures ∙ c.if-not-is_good.false)

pub returns : goal.returns
returns c = fault_topics _ _ _ _ _ _ c.is_good.ensures c.if-not-is_good.false _ c.lead_fits.ensures c.if-not-lead_fits.false _ c.limits_fit.ensures c.if-not-limits_fit.false _ c.topics_fault.ensures
