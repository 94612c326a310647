-- The fraction that stands for a coordinate, read with a default.
use Rattle.std.proofs.Common.{◌≡◌, ℕ, ◌<◌, ◌*ℤ◌, List, length, get_or, subst}
use Rattle.std.proofs.lemmas.Option.{slice_get_within, slice_get-get_or, get_or_from_slice_get}
use Rattle.emp_algebra.specs.Vector.{cell}
use Rattle.emp_num.specs.Ratio.{ratio, SameRatio}
use Rattle.emp_num.specs.Point.{Point, coordinate, StandsFor}
use Rattle.emp_num.specs.declared.frac.Frac.{Frac}

-- within the list the fraction that is read is the coordinate
pub stands_at : (fs : List Frac) (p : Point) → StandsFor fs p → (k : ℕ) (d : Frac) → k < length fs → (get_or fs k d).num *ℤ p.den ≡ cell p.nums k *ℤ (get_or fs k d).den
stands_at fs p s k d l = s.same k (get_or fs k d) (slice_get-get_or fs k d l)

pub stands_from : (fs : List Frac) (p : Point) → length p.nums ≡ length fs → ((k : ℕ) (d : Frac) → k < length fs → (get_or fs k d).num *ℤ p.den ≡ cell p.nums k *ℤ (get_or fs k d).den) → StandsFor fs p
stands_from fs p count each = record {
  count = count;
  same = λ k f at. subst (λ (g : Frac). SameRatio (ratio g.num g.den) (coordinate p k)) (get_or_from_slice_get fs k f f at) (each k f (slice_get_within fs k f at));
}
