-- A test of each element of a list.
use mathlib.Core.Bool.{Bool, ◌&&◌, and_assoc}
use mathlib.Core.List.{List, [], ◌∷◌, ◌++◌}
use mathlib.Core.Path.{◌≡◌, refl}
use Rattle.block.specs.Encoding.{every}

pub every_join : {A : Type 0} (test : A → Bool) (left right : List A) → every test (left ++ right) ≡ (every test left && every test right)
unfolding every
every_join test [] right = refl
every_join test (first ∷ left) right = rw (every_join test left right, and_assoc)
