use mathlib.Core.List.{map}
use mathlib.Core.Path.{◌≡◌}
use Prim.Native.Nat.{◌*◌}
use Rattle.std.proofs.Common.{rules, tests}
use Rattle.std.proofs.lemmas.List.FromFn.{fill_by_all}
use Rattle.std.specs.List.{range_with_len}
use Rattle.books.proofs.places.Laws.{rooms-from}
use Rattle.books.proofs.places.rooms.Goals as goal

pub returns : goal.returns
returns c =
    let e : c.from_fn.result ≡ map (λ i. i * 21) (range_with_len 0 64) =
    fill_by_all (λ i. i * 21) c.from_fn.result 64 0 c.from_fn.ensures.items.long (λ k h. let at = c.from_fn.ensures.items.at k 0 h in search (rules, tests, at)) in
    λ row. rw e (rooms-from row 64 0)
