-- Three rows of three numbers, which are those of the agreement in order.
use Rattle.gateway_api_versions.proofs.NineNumbers.{nine_numbers}
use Rattle.gateway_api_versions.proofs.agreement.agreed.Goals as goal

pub returns : goal.returns
returns c = nine_numbers c.agree-rows.result _ c.agree-rows.ensures (record { sfits = c.result-1.given }) (record { sfits = c.result-2-1.given }) (record { sfits = c.result-3-1.given }) (record { sfits = c.result-4-1.given }) (record { sfits = c.result-5-1.given }) (record { sfits = c.result-6-1.given }) (record { sfits = c.result-7-1.given }) (record { sfits = c.result-8-1.given }) (record { sfits = c.result-9-1.given })
