-- Leaves that are read off a dictionary.
use Rattle.std.proofs.Common.{◌≡◌, ℕ, ◌<◌, ℤ, pos, negsuc, neg_ℤ, List, length, subst}
use Rattle.std.specs.List.{All}
use Rattle.emp_num.specs.Exact.{IsNarrow}
use Rattle.emp_cert.specs.declared.tree.Node.TheVariants.{Farkas}
use Rattle.emp_dict.specs.Dictionary.{Dictionary, IsSound, line_at}
use Rattle.emp_decide.specs.Reads.{farkas_by, farkas_factors, bound_factors}
use Rattle.emp_decide.proofs.Factors.{length-factors}
use Rattle.emp_decide.proofs.Rows.{line_is}
use Rattle.emp_search.specs.Search.{bound_of}
use Rattle.emp_walk.specs.Courses.{LeafFits}

length-farkas : (d : Dictionary) (r : ℕ) (c : ℤ) → length (farkas_by d r c) ≡ length d.marks
length-farkas d r (pos c) = length-factors d r (neg_ℤ (line_at d r).denom) (pos 1)
length-farkas d r (negsuc c) = length-factors d r (line_at d r).denom (negsuc 0)

pub farkas_leaf : (d : Dictionary) (r : ℕ) (fs : List ℤ) → fs ≡ farkas_factors d r → All IsNarrow fs → LeafFits d (Farkas (farkas_factors d r))
farkas_leaf d r fs e h pairs = (length-farkas d r (line_at d r).constant, subst (All IsNarrow) e h)

pub bound_leaf : (d : Dictionary) (r : ℕ) (fs : List ℤ) → IsSound d → r < length d.rows → fs ≡ bound_factors d r → All IsNarrow fs → LeafFits d (bound_of d r)
bound_leaf d r fs s b e h pairs = let l = line_is d s r b in (l.positive, l.denom, length-factors d r (pos 0) (pos 1), subst (All IsNarrow) e h)
