-- A reading fills its row with no zeros.
use mathlib.Core.List.{List, ◌∷◌, ◌++◌, map, append-nil}
use mathlib.Core.Path.{◌≡◌}
use Prim.Native.Nat.{ℕ}
use native.Mathlib.Nat.{sub_self}
use lib.IntN.{ℤ, pos}
use lib.ListN.{length, length-append, length-map}
use Rattle.meaning.specs.Answers.{accepted}
use Rattle.meaning.specs.declared.Reading.{Reading}
use Rattle.rows.specs.Rows.{in_row, Given}

pub full : {old new vs : List ℤ} {r : ℕ} (n : ℕ) → length vs ≡ n → Given (accepted vs) old new r → Given (in_row n (accepted vs)) old new r
full {vs = vs} n long given = rw (long, sub_self n, append-nil vs) given

pub row-long : (r : Reading) → length r.values ≡ 15 → length r.starts ≡ 15 → length r.ends ≡ 15
    → length (pos r.taken ∷ pos r.mask ∷ pos r.units ∷ r.values ++ map pos r.starts ++ map pos r.ends) ≡ 48
row-long r h k l =
    rw (length-append, length-append, length-map r.starts pos, length-map r.ends pos, h, k, l)
