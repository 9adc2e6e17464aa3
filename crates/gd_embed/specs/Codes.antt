-- The answers as numbers.
use Rattle.std.specs.Prelude.{ℤ, negsuc, Result, Ok, Err}
use Rattle.gd_embed.specs.declared.answers.Fault.{Fault}
use Rattle.gd_embed.specs.declared.answers.Fault.TheVariants as fault

abbrev pub coded : Result ℤ Fault → ℤ
coded (Ok number) = number
coded (Err fault.Empty) = negsuc 0
coded (Err fault.Spent) = negsuc 1
coded (Err fault.Occupied) = negsuc 2
coded (Err fault.NoMemory) = negsuc 3
coded (Err fault.Room) = negsuc 4
coded (Err fault.Refused) = negsuc 5
coded (Err fault.NotHere) = negsuc 6
coded (Err fault.Unwritten) = negsuc 7
coded (Err fault.NotThese) = negsuc 8
coded (Err fault.NoSite) = negsuc 9
coded (Err fault.NoNote) = negsuc 10
coded (Err fault.NotParted) = negsuc 11
coded (Err fault.BadJournal) = negsuc 12
coded (Err fault.OtherJournal) = negsuc 13
