-- The frame that a site writes is read from its bytes.
use Rattle.std.proofs.Common.{◌≡◌, ℕ, ◌≤◌, true, List, Result, Ok, Err, sym, ◌∙◌, ap, subst}
use Rattle.gd_base.proofs.SiteLemmas.{is_site-within}
use Rattle.gd_base.specs.Sites.{is_site}
use Rattle.gd_grammar.proofs.ExactFrame.{frame-written}
use Rattle.gd_grammar.specs.FrameBytes.{Frame, Misread, frame, frame_bytes}
use Rattle.gd_protocol.proofs.SiteFrames.{well_frame}
use Rattle.gd_reference.specs.Offers.{frame_for}
use Rattle.gd_reference.specs.SlowSite.{SlowSite}
use Rattle.gd_site.specs.Sites.{SiteValue, StandsFor}
use Rattle.gd_stable.specs.Peers.{IsOther}

one_frame : (read : Result Frame Misread) (f g : Frame) → read ≡ Ok f → read ≡ Ok g → f ≡ g
one_frame read f g e h = let same = sym e ∙ h in cc

no_fault : (read : Result Frame Misread) (m : Misread) (g : Frame) → read ≡ Err m → read ≡ Ok g → ⊥
no_fault read m g e h = let none = sym e ∙ h in cc

module _ (slow : SlowSite) (site : SiteValue) (st : StandsFor slow site) (to : ℕ) (other : IsOther site.peers to)
    (bytes : List ℕ) (spelled : bytes ≡ frame_bytes (frame_for slow to)) where
  read_back : frame bytes ≡ Ok (frame_for slow to)
  read_back =
      let inside : is_site slow.sites to
      ≡ true = is_site-within slow.sites to other.from (subst (λ (n : ℕ). to ≤ n) st.sites other.to) in
      ap frame spelled ∙ frame-written (frame_for slow to) (well_frame slow to inside st.well)

  pub reads_it : (f : Frame) → frame bytes ≡ Ok f → f ≡ frame_for slow to
  reads_it f e = one_frame (frame bytes) f (frame_for slow to) e read_back

  pub refuses_none : (m : Misread) → frame bytes ≡ Err m → ⊥
  refuses_none m e = no_fault (frame bytes) m (frame_for slow to) e read_back
