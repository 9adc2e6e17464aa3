-- Each part of a snapshot in front of its objects is read alike whatever follows it.
use Rattle.std.proofs.Common.{ℕ, ◌+◌, cond, ◌∷◌, Ok, Err}
use Rattle.std.specs.Prelude.{nat_le, ◌==◌}
use Rattle.std.specs.Int.{w64, from_be_bytes}
use Rattle.gd_base.specs.declared.fault.FieldWhy.TheVariants as why
use Rattle.gd_base.specs.Results.{◌>>=◌}
use Rattle.gd_grammar.specs.Fields.{byte_at, site_at, word_at}
use Rattle.gd_grammar.specs.FrameBytes.{frame_version_at, six_at}
use Rattle.gd_grammar.specs.Fields.{half_at}
use Rattle.gd_grammar.specs.HeaderBytes.{magic_at, sites_at}
use Rattle.gd_grammar.specs.Reading.{fault_at, bytes_at, ranged}
use Rattle.gd_grammar.specs.Steady.{Steady}
use Rattle.gd_grammar.proofs.Steady.{Steady-then, Steady-bytes, done, behind, fault_there, either}
use Rattle.gd_grammar.proofs.SteadyFields.{in_range, Steady-byte, Steady-half, Steady-site, Steady-word, Steady-magic}
use Rattle.gd_grammar.proofs.SteadyFields.{Steady-sites}
use Rattle.gd_snapshots.specs.SnapshotBytes.{snapshot_magic, head_at, known_at, number_within}

-- ---- numbers

pub Steady-six : Steady 6 six_at
unfolding six_at
Steady-six = Steady-then 6 0 (bytes_at 6) (λ six _ rest. Ok (from_be_bytes w64 (0 ∷ 0 ∷ six), rest)) (Steady-bytes 6)
    (λ six. done 0 _)

pub Steady-frame-version : Steady 1 frame_version_at
unfolding frame_version_at
Steady-frame-version = Steady-then 1 0 byte_at
    (λ version bytes rest. cond (version == 3) (Ok (version, rest)) (Err (fault_at why.Version bytes))) Steady-byte
    (λ version. either (version == 3) (λ _. done 0 version) (λ _. fault_there 0 why.Version (λ e. cc)))

-- ---- the head, what is known of a site, and numbers of things

pub Steady-head : Steady 11 head_at
unfolding head_at
Steady-head = Steady-then 4 7 (magic_at snapshot_magic)
    (λ _ _ b0. frame_version_at b0 >>= λ version. word_at version.1 >>= λ session. site_at session.1 >>= λ site.
    sites_at site.0 site.1 >>= λ sites. Ok (record { session = session.0; site = site.0; sites = sites.0 }, sites.1))
    (Steady-magic snapshot_magic) (λ _. behind 7 _
    (Steady-then 1 6 frame_version_at
    (λ _ _ b1. word_at b1 >>= λ session. site_at session.1 >>= λ site. sites_at site.0 site.1 >>= λ sites. Ok
    (record { session = session.0; site = site.0; sites = sites.0 }, sites.1)) Steady-frame-version (λ _. behind 6 _
    (Steady-then 4 2 word_at
    (λ session _ b2. site_at b2 >>= λ site. sites_at site.0 site.1 >>= λ sites. Ok
    (record { session = session; site = site.0; sites = sites.0 }, sites.1)) Steady-word (λ session. behind 2 _
    (Steady-then 1 1 site_at
    (λ site _ b3. sites_at site b3 >>= λ sites. Ok
    (record { session = session; site = site; sites = sites.0 }, sites.1)) Steady-site (λ site. behind 1 _
    (Steady-then 1 0 (sites_at site) (λ sites _ b4. Ok (record { session = session; site = site; sites = sites }, b4))
    (Steady-sites site) (λ sites. done 0 _)))))))))

pub Steady-known : Steady 8 known_at
unfolding known_at
Steady-known = Steady-then 2 6 half_at
    (λ count _ b0. six_at b0 >>= λ sure. Ok (record { count = count; sure = sure.0 }, sure.1)) Steady-half
    (λ count. behind 6 _
    (Steady-then 6 0 six_at (λ sure _ b1. Ok (record { count = count; sure = sure }, b1)) Steady-six
    (λ sure. done 0 _)))

-- how many objects or kept events there are
pub Steady-number-within : (most before : ℕ) → Steady 4 (number_within most before)
unfolding number_within
Steady-number-within most before
    = Steady-then 4 0 word_at (λ number bytes rest. ranged (nat_le (before + number) most) number bytes rest)
    Steady-word (λ number. in_range 0 _ _)
