-- A send in a world that stands for one that steps lead to.
use Rattle.std.proofs.Common.{◌≡◌, ◌≢◌, ℕ, ◌-◌, ◌≤◌, true, false, not, ◌&&◌, ◌==◌, cond, List, [], ◌∷◌, ◌++◌, length}
use Rattle.std.proofs.Common.{get_or, sym, ap, ◌∙◌, subst}
use Rattle.std.proofs.lemmas.Bool.{ne_eqb}
use Rattle.gd_base.proofs.SiteLemmas.{is_site-bounds}
use Rattle.gd_base.specs.Sites.{is_site}
use Rattle.gd_grammar.specs.FrameBytes.{Frame}
use Rattle.gd_reference.specs.Offers.{frame_for}
use Rattle.gd_reference.specs.World.{Send, World, happens, sent}
use Rattle.gd_reference.specs.SlowSite.{SlowSite}
use Rattle.gd_site.specs.Sites.{StandsFor as SiteStands}
use Rattle.gd_takeback.specs.Standing.{StandsWith}
use Rattle.gd_world.proofs.Members.{kept, mailed, member_of, member_read}
use Rattle.gd_world.specs.Standing.{StandsFor, WorldValue}
use Rattle.gd_world.specs.declared.member.Member.{Member}

module _ (w : World) (v now : WorldValue) (view : v ≡ now) (st : StandsFor w v) (from to : ℕ)
    (from_in : is_site (length now.members) from ≡ true) (to_in : is_site (length now.members) to ≡ true)
    (apart : from ≢ to) where
  place_in : is_site (length v.members) from ≡ true
  place_in = subst (λ (x : WorldValue). is_site (length x.members) from ≡ true) (sym view) from_in

  sender_in : is_site w.sites from ≡ true
  sender_in = subst (λ (n : ℕ). is_site n from ≡ true) st.members place_in

  receiver_in : is_site w.sites to ≡ true
  receiver_in = subst (λ (n : ℕ). is_site n to ≡ true)
      (ap (λ (x : WorldValue). length x.members) (sym view) ∙ st.members) to_in

  goes : happens w (Send from to) ≡ sent w from to
  unfolding happens
  goes =
      let unlike : (from == to) ≡ false = ne_eqb from to apart in
      λ i. cond (sender_in i && receiver_in i && not (unlike i)) (sent w from to) w

  module _ (place : ℕ) (same : place ≡ from) (member : Member) (read : member ≡ get_or v.members (place - 1) member)
    where
      sender : StandsWith (w.at from) member.site member.backs
      sender = member_of w v st from member sender_in (member_read v.members from place member place_in same read)

      -- the receiver is another site to the sender
      pub receiver_is_other : (1 ≤ to) × (to ≤ member.site.peers.sites) × (to ≢ member.site.peers.me)
      receiver_is_other =
          let stands = sender.site in
          let named = (kept w v st).named from in
          let bounds = is_site-bounds w.sites to receiver_in in (
            bounds.0,
            subst (λ (n : ℕ). to ≤ n) (sym (stands.sites ∙ named.sites)) bounds.1,
            λ same. apart
                (sym (same ∙ stands.me ∙ named.me)),
          )

      -- the world with the sender's frame behind the mail
      pub sent_stands : (frame : Frame) → ((slow : SlowSite) → SiteStands slow member.site → frame ≡ frame_for slow to)
          → (mail : List Frame) → mail ≡ v.mail ++ frame ∷ []
          → StandsFor (happens w (Send from to)) (record { members = v.members; mail = mail })
      sent_stands frame is mail behind =
          let made : frame ≡ frame_for (w.at from) to = is (w.at from) sender.site in
          subst (λ (l : List Frame). StandsFor (happens w (Send from to)) (record { members = v.members; mail = l }))
          (sym behind)
          (mailed w v st (Send from to) tt frame
          (goes ∙ ap (λ (f : Frame). record w { mail = w.mail ++ f ∷ [] }) (sym made)))
