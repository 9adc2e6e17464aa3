use Rattle.std.proofs.Common.{subst, ◌≡◌}
use Rattle.std.specs.Prelude.{IfOk}
use Rattle.gd_json.specs.PictureJson.{picture_json}
use Rattle.gd_member.proofs.member.Member.json.Goals as goal

pub returns : goal.returns
returns c slow written st =
    let s = rw (← c.self.view_is) at st in
    subst (λ shown. IfOk c.picture_json.result (λ line. line ≡ picture_json shown))
    (c.in_ok-shown.ensures slow s.stands.site) c.picture_json.ensures
