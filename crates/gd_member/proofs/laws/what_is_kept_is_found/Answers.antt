use Rattle.gd_member.proofs.Logs.{closes_all, found_all}
use Rattle.gd_member.proofs.laws.what_is_kept_is_found.Goals as goal

pub returns-clause-closes : goal.returns-clause-closes
returns-clause-closes c slow written m journal st closes = closes_all slow written m journal st closes

pub returns-clause-found : goal.returns-clause-found
returns-clause-found c slow written m journal st closes = found_all slow written m journal st closes
