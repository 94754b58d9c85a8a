-- What lies there and the bytes still to be laid are all the bytes.
use mathlib.Core.Path.{◌≡◌}
use Prim.Native.Nat.{◌+◌, ◌-◌}
use lib.ListN.{length}
use lib.Seq.{sets}
use Rattle.names.specs.Letters.{bytes_of}
use Rattle.names.proofs.letters.put_bytes.Given as goal

abbrev pub invariant-loop-j : goal.invariant-loop-j
invariant-loop-j l =
    (length l.out ≡ length l.initial.out) × (sets l.out (l.at + l.j) (bytes_of (l.n - l.j) l.rest) ≡ sets l.initial.out l.at (bytes_of l.n l.number))
