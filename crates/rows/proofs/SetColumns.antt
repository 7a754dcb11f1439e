-- A kind of sets from the number that its column has.
use mathlib.Core.Path.{◌≡◌, refl}
use Rattle.rows.specs.declared.Kind.{Kind}
use Rattle.rows.specs.declared.Kind.TheVariants as kind
use Rattle.rows.specs.Columns.{kind_number, kind_from}

pub kind_back : (k : Kind) → kind_from (kind_number k) ≡ k
kind_back kind.Switch = refl
kind_back kind.Number = refl
kind_back kind.Text = refl
kind_back kind.Free = refl
kind_back kind.Clock = refl
kind_back kind.Calendar = refl
kind_back kind.Time = refl
