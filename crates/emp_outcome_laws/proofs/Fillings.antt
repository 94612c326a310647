-- The way back of a point gives one list of values, or one first wide value.
use Rattle.std.proofs.Common.{◌≡◌, ◌⊎◌, inl, inr, ℕ, ◌<◌, List, length, Ok, Err, refl, ap, ◌∙◌}
use Rattle.std.proofs.lemmas.Bool.{cases_order}
use Rattle.emp_num.specs.declared.frac.Frac.{Frac}
use Rattle.emp_num.proofs.Commons.{common_point, stands_for_common}
use Rattle.emp_num.proofs.SamePoints.{same_itself, stands_one_list}
use Rattle.emp_ast.specs.declared.tree.VarId.{VarId}
use Rattle.emp_ast.specs.declared.model.Model.{Model}
use Rattle.emp_ast.specs.declared.annot.Annot.{Annot}
use Rattle.emp_problem.specs.declared.problem.AgentProblem.{AgentProblem}
use Rattle.emp_subst.specs.declared.fault.FillFault.TheVariants.{Wide, NoMemory}
use Rattle.emp_subst.specs.Fill.{IsFirstWide, IsFilling, spread}
use Rattle.emp_layers.specs.Layers.{IsFilesProblem}
use Rattle.emp_layers.specs.Image.{image}
use Rattle.emp_layers.proofs.Backs.{filling_is_image}
use Rattle.emp_outcome_laws.specs.Laws.{OneFilling}

module _ (m : Model) (a : Annot) (pr : AgentProblem) where
  -- each list of values is that of the point's image
  fillings_same : (values list other : List Frac) → IsFilesProblem m a pr → length values ≡ length pr.variables → IsFilling m a pr values list → IsFilling m a pr values other → list ≡ other
  fillings_same values list other h count f g =
      let p = common_point values in
      let stands = stands_for_common values in
      let fits = stands.count ∙ count in
      let one = filling_is_image m a pr h p fits values stands list f in
      let two = filling_is_image m a pr h p fits values stands other g in
      stands_one_list list other (image m a pr p) (image m a pr p) one.0 two.0 (same_itself (image m a pr p))

  wides_same : (xs : List Frac) (v w : ℕ) → IsFirstWide m a pr xs v → IsFirstWide m a pr xs w → v ≡ w
  wides_same xs v w f g = go (cases_order v w)
    where
      go : (v ≡ w) ⊎ ((v < w) ⊎ (w < v)) → v ≡ w
      go (inl e) = e
      go (inr (inl l)) = absurd (g.before v f.formula l f.fold f.wide)
      go (inr (inr l)) = absurd (f.before w g.formula l g.fold g.wide)

  no_wide : (values list : List Frac) (w : ℕ) → IsFilling m a pr values list → IsFirstWide m a pr (spread m a values) w → ⊥
  no_wide values list w f g = f.narrow w g.formula g.inside g.fold g.wide

variable_is : (v w : VarId) → v.at ≡ w.at → v ≡ w
variable_is v w e = made v.at w.at e
  where
    made : (i j : ℕ) → i ≡ j → ◌≡◌ {A = VarId} (record { at = i }) (record { at = j })
    made i j e = rw e refl

pub one_filling : OneFilling
one_filling m a pr values (Ok x) (Ok y) class problem count n o h k = ap Ok (fillings_same m a pr values x y (record { class = class; problem = problem }) count h k)
one_filling m a pr values (Ok x) (Err (Wide w)) class problem count n o h k = absurd (no_wide m a pr values x w.at h k)
one_filling m a pr values (Err (Wide v)) (Ok y) class problem count n o h k = absurd (no_wide m a pr values y v.at k h)
one_filling m a pr values (Err (Wide v)) (Err (Wide w)) class problem count n o h k = ap (λ (u : VarId). Err (Wide u)) (variable_is v w (wides_same m a pr (spread m a values) v.at w.at h k))
one_filling m a pr values (Err NoMemory) t class problem count n o h k = absurd (n refl)
one_filling m a pr values r (Err NoMemory) class problem count n o h k = absurd (o refl)
