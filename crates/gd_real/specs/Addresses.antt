-- The addresses of sockets.
use Rattle.std.specs.Prelude.{ℕ, ◌-◌, nat_eq, if◌then◌else◌, List, Option, None, Some}
use Rattle.std.specs.List.{AllZip, slice_get}
use Rattle.std.specs.Net.Grammar.{IsSocketText}
use Rattle.std.specs.declared.net.socket_addr.SocketAddr.{SocketAddr}
use Rattle.gd_real.specs.declared.socket.Bound.{Bound}

-- each address is the one that the word in its place writes
abbrev pub AreWritten : List (List ℕ) → List SocketAddr → Type 0
AreWritten words addresses = AllZip IsSocketText words addresses

-- a socket for the addresses that the words write, if it is bound
abbrev pub IsBoundFor : List (List ℕ) → Option Bound → Type 0
IsBoundFor words None = ⊥
IsBoundFor words (Some bound) = AreWritten words bound.addresses.items

-- the address of the site with that number, counted from 1
abbrev pub address_at : List SocketAddr → ℕ → Option SocketAddr
address_at addresses site = if nat_eq site 0 then None else slice_get addresses (site - 1)
