-- What a walk over the bytes that an inside stands for has left.
use Rattle.std.specs.Prelude.{List, ℕ, drop}
use Rattle.pattern.specs.First.{unescaped}
use Rattle.pattern.specs.declared.quoted.Unescaped.{Unescaped}

abbrev pub bytes_left : Unescaped → List ℕ
bytes_left walk = unescaped (drop walk.place walk.inside.now)
