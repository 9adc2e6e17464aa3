-- A datagram that is a mail of a world is taken as that mail is delivered, and so are those of a poll.
use Rattle.std.proofs.Common.{◌≡◌, ℕ, suc, zero, ◌≤◌, false, List, [], ◌∷◌, length, map, slice_get, Some, refl, sym, ap}
use Rattle.std.proofs.Common.{◌∙◌, subst, arith}
use Rattle.std.proofs.lemmas.Bool.{le-ltb}
use Rattle.std.specs.List.{AllByRecursion as Every}
use Rattle.gd_base.proofs.Lists.{Every-at}
use Rattle.gd_grammar.proofs.ExactFrame.{frame-written}
use Rattle.gd_grammar.specs.FrameBytes.{Frame, IsFrame, frame_bytes}
use Rattle.gd_outside.specs.Seen.{Entry}
use Rattle.gd_reference.specs.NodeRun.{after_datagram, is_too_long, of_datagram, received}
use Rattle.gd_reference.specs.Offers.{take_frame}
use Rattle.gd_reference.specs.SiteEffects.{of_frame}
use Rattle.gd_reference.specs.SlowSite.{SlowSite}
use Rattle.gd_reference.specs.World.{World, Deliver, after_from, delivered, happens, with_site}
use Rattle.gd_protocol.proofs.Lists.{put_same}
use Rattle.gd_protocol.specs.Polls.{BringMail}

-- no frame is too long
short : (f : Frame) → IsFrame f → is_too_long (frame_bytes f) ≡ false
short f is = le-ltb _ _ (omega (arith, is.fits))

pub taken_datagram : (slow : SlowSite) (f : Frame) → IsFrame f → after_datagram slow (frame_bytes f) ≡ take_frame slow f
taken_datagram slow f is = rw (short f is, frame-written f is) refl

pub done_datagram : (slow : SlowSite) (f : Frame) → IsFrame f → of_datagram slow (frame_bytes f) ≡ of_frame slow f
done_datagram slow f is = rw (short f is, frame-written f is) refl

at_delivered : (w : World) (f : Frame) (s : ℕ) → f.head.to ≡ s → (delivered w (Some f)).at s ≡ take_frame (w.at s) f
unfolding with_site
at_delivered w f s to =
    put_same w.at f.head.to (take_frame (w.at f.head.to) f) s (sym to) ∙ ap (λ (t : ℕ). take_frame (w.at t) f) to

pub delivered_datagram : (w : World) (k : ℕ) (f : Frame) (s : ℕ) → Every IsFrame w.mail → slice_get w.mail k ≡ Some f
    → f.head.to ≡ s
    → after_datagram (w.at s) (frame_bytes f) ≡ (happens w (Deliver k)).at s
unfolding happens
delivered_datagram w k f s frames there to =
    taken_datagram (w.at s) f (Every-at IsFrame w.mail k f frames there)
    ∙ sym (at_delivered w f s to)
    ∙ sym (ap (λ m. (delivered w m).at s) there)

mail_stays : (w : World) (k : ℕ) (f : Frame) → slice_get w.mail k ≡ Some f → (happens w (Deliver k)).mail ≡ w.mail
unfolding happens with_site
mail_stays w k f there = ap (λ m. (delivered w m).mail) there

brought_still : (v w : World) (s : ℕ) (ks : List ℕ) (es : List Entry) → v.mail ≡ w.mail → BringMail w s ks es
    → BringMail v s ks es
brought_still v w s [] [] same b = tt
brought_still v w s [] (e ∷ es) same b = b
brought_still v w s (k ∷ ks) [] same b = b
brought_still v w s (k ∷ ks) (e ∷ es) same (f, there, to, is, rest) =
    (f, ap (λ m. slice_get m k) same ∙ there, to, is, brought_still v w s ks es same rest)

pub received_mail : (most count : ℕ) (w : World) (s : ℕ) (ks : List ℕ) (es : List Entry) → Every IsFrame w.mail
    → BringMail w s ks es → length ks ≤ most
    → (received most count (w.at s) es).site ≡ (after_from w (map Deliver ks)).at s
unfolding received after_from
received_mail zero count w s [] [] frames b few = refl
received_mail zero count w s [] (e ∷ es) frames b few = absurd b
received_mail zero count w s (k ∷ ks) es frames b few = absurd (omega (arith, few))
received_mail (suc most) count w s [] [] frames b few = refl
received_mail (suc most) count w s [] (e ∷ es) frames b few = absurd b
received_mail (suc most) count w s (k ∷ ks) [] frames b few = absurd b
received_mail (suc most) count w s (k ∷ ks) (e ∷ es) frames (f, there, to, is, rest) few =
    let next = happens w (Deliver k) in
    let same = mail_stays w k f there in
    ap (λ x. (received (suc most) count (w.at s) (x ∷ es)).site) is
    ∙ ap (λ x. (received most (suc count) x es).site) (delivered_datagram w k f s frames there to)
    ∙ received_mail most (suc count) next s ks es (subst (Every IsFrame) (sym same) frames)
    (brought_still next w s ks es same rest) (omega (arith, few))
