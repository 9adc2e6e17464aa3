use Rattle.std.proofs.Common.{[], refl}
use Rattle.gd_member.proofs.Standing.{begun}
use Rattle.gd_reference.specs.SlowSite.{new_site}
use Rattle.gd_member.proofs.member.Member.new.Goals as goal

pub invariant_of-result : goal.invariant_of-result
invariant_of-result c live =
    let slow = new_site c.args.me c.args.sites c.args.session in
    (slow, [], begun slow live c.in_ok-site.ensures c.new-backs.ensures c.new-unwritten.ensures)

pub returns : goal.returns
returns c =
    let slow = new_site c.args.me c.args.sites c.args.session in
    begun slow refl c.in_ok-site.ensures c.new-backs.ensures c.new-unwritten.ensures
