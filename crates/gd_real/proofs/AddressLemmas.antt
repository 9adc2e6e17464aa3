-- Addresses that are read word by word.
use Rattle.std.proofs.Common.{ℕ, ◌+◌, ◌<◌, List, [], ◌∷◌, ◌++◌, length, take, slice_index_or, subst, sym}
use Rattle.std.specs.List.{AllZip}
use Rattle.std.specs.Net.Grammar.{IsSocketText}
use Rattle.std.specs.declared.net.socket_addr.SocketAddr.{SocketAddr}
use Rattle.std.proofs.lemmas.List.{take_more}
use Rattle.gd_real.specs.Addresses.{AreWritten}

-- one more of both
push : (words : List (List ℕ)) (addresses : List SocketAddr) (word : List ℕ) (address : SocketAddr)
    → AreWritten words addresses → IsSocketText word address
    → AreWritten (words ++ word ∷ []) (addresses ++ address ∷ [])
push [] [] word address so_far more = (more, tt)
push (w ∷ words) (a ∷ addresses) word address so_far more = (so_far.0, push words addresses word address so_far.1 more)
push [] (a ∷ addresses) word address so_far more = absurd so_far
push (w ∷ words) [] word address so_far more = absurd so_far

pub one-more : (words : List (List ℕ)) (addresses : List SocketAddr) (k : ℕ) (word : List ℕ) (address : SocketAddr)
    → k < length words
    → AreWritten (take k words) addresses → IsSocketText (slice_index_or words k word) address
    → AreWritten (take (k + 1) words) (addresses ++ address ∷ [])
one-more words addresses k word address inside so_far more =
    subst (λ l. AreWritten l (addresses ++ address ∷ [])) (sym (take_more words k word inside))
    (push (take k words) addresses (slice_index_or words k word) address so_far more)
