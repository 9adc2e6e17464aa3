use Rattle.std.proofs.Common.{ap}
use Rattle.gd_member.specs.Members.{MemberValue}
use Rattle.gd_member.proofs.member.Member.is_spent.Goals as goal

pub returns : goal.returns
returns c = ap (λ (m : MemberValue). m.spent) c.self.view_is
