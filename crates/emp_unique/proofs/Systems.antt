-- The rows of a problem have one answer.
use Rattle.std.proofs.Common.{◌≡◌, ◌⊎◌, inl, inr, ℕ, zero, suc, ◌+◌, ◌<◌, ◌≤◌, List, [], ◌∷◌, ◌++◌, length, get_or, take, Option, Some, None, Ok, Err, arith, refl, sym, ap, subst, ◌∙◌}
use denote.Struct.Props.{props}
use Rattle.std.proofs.lemmas.Bool.{cases_order}
use Rattle.std.proofs.lemmas.List.{get_or-take, length-take-le}
use Rattle.emp_rows.specs.declared.affine.Affine.{Affine}
use Rattle.emp_rows.specs.declared.system.Kind.{Kind}
use Rattle.emp_rows.specs.declared.system.RowSystem.{RowSystem}
use Rattle.emp_rows.specs.Systems.{IsSystem}
use Rattle.emp_split.specs.Games.{coordinates}
use Rattle.emp_problem.specs.declared.problem.LeaderPart.{LeaderPart}
use Rattle.emp_problem.specs.declared.problem.AgentProblem.{AgentProblem}
use Rattle.emp_whole.proofs.Multiples.{each_problem_is_whole}
use Rattle.emp_kkt.specs.declared.asked.Item.{Item}
use Rattle.emp_kkt.specs.declared.asked.Item.TheVariants.{Goal}
use Rattle.emp_kkt.specs.declared.make.KktFault.TheVariants.{TooLarge, WideRow, NoMemory}
use Rattle.emp_kkt.specs.Items.{shape, items}
use Rattle.emp_kkt.specs.Gives.{base_count, IsMadeOf, AreMadeOf, IsGoalMade, goal_items, numbered, IsFirstWide, KktGives}
use Rattle.emp_kkt.proofs.Shapes.{base_same}
use Rattle.emp_unique.specs.Laws.{OneSystem}
use Rattle.emp_unique.proofs.Cells.{made_not_wide, rows_same, goal_same}

-- ---- systems
-- there is one proof of what a system keeps
kept_once : (n : ℕ) (qs : List Affine) (ks : List Kind) (ps : List (ℕ × ℕ)) (o : Option Affine) → IsProp (IsSystem n qs ks ps o)
kept_once n qs ks ps o = hlevel props

system_eq : (s t : RowSystem) → s.base ≡ t.base → s.quantities ≡ t.quantities → s.kinds ≡ t.kinds → s.pairs ≡ t.pairs → s.objective ≡ t.objective → s ≡ t
system_eq s t b q k p o =
    subst (λ (u : Option Affine). Same t.base t.quantities t.kinds t.pairs u) o
    (subst (λ (ps : List (ℕ × ℕ)). Same t.base t.quantities t.kinds ps s.objective) p
    (subst (λ (ks : List Kind). Same t.base t.quantities ks s.pairs s.objective) k
    (subst (λ (qs : List Affine). Same t.base qs s.kinds s.pairs s.objective) q
    (subst (λ (n : ℕ). Same n s.quantities s.kinds s.pairs s.objective) b
    start))))
    t.sound
  where
    Same : ℕ → List Affine → List Kind → List (ℕ × ℕ) → Option Affine → Type 0
    Same n qs ks ps u = (h : IsSystem n qs ks ps u) → s ≡ record { base = n; quantities = qs; kinds = ks; pairs = ps; objective = u; sound = h }

    start : Same s.base s.quantities s.kinds s.pairs s.objective
    start h = λ i. record {
      base = s.base;
      quantities = s.quantities;
      kinds = s.kinds;
      pairs = s.pairs;
      objective = s.objective;
      sound = kept_once s.base s.quantities s.kinds s.pairs s.objective s.sound h i;
    }

base_is : (pr : AgentProblem) (s : RowSystem) → KktGives pr (Ok s) → s.base ≡ base_count pr
base_is pr s h = let n = each_problem_is_whole pr in (h.over n.0 n.1).base ∙ ap (λ bs. coordinates (shape pr) + length bs) (base_same n.0 pr)

pub systems_same : (pr : AgentProblem) (s t : RowSystem) → KktGives pr (Ok s) → KktGives pr (Ok t) → s ≡ t
systems_same pr s t h k =
    let n = each_problem_is_whole pr in
    let x = h.over n.0 n.1 in
    let y = k.over n.0 n.1 in
    let base : s.base ≡ t.base = x.base ∙ sym y.base in
    system_eq s t base
    (rows_same pr t.base (items pr) s.quantities t.quantities (subst (λ b. AreMadeOf pr b (items pr) s.quantities) base h.quantities) k.quantities)
    (x.kinds ∙ sym y.kinds)
    (x.pairs ∙ sym y.pairs)
    (goal_same pr t.base pr.leader s.objective t.objective (subst (λ b. IsGoalMade pr b pr.leader s.objective) base h.objective) k.objective)

-- ---- wide quantities
made_append : (pr : AgentProblem) (n : ℕ) (is js : List Item) (qs rs : List Affine) → AreMadeOf pr n is qs → AreMadeOf pr n js rs → AreMadeOf pr n (is ++ js) (qs ++ rs)
made_append pr n [] js [] rs h k = k
made_append pr n [] js (q ∷ qs) rs h k = absurd h
made_append pr n (i ∷ is) js [] rs h k = absurd h
made_append pr n (i ∷ is) js (q ∷ qs) rs h k = (h.0, made_append pr n is js qs rs h.1 k)

made_at : (pr : AgentProblem) (n : ℕ) (is : List Item) (qs : List Affine) (k : ℕ) → AreMadeOf pr n is qs → k < length is → (r : Affine) × IsMadeOf pr n (get_or is k Goal) r
made_at pr n [] qs k h l = absurd (omega arith)
made_at pr n (i ∷ is) [] k h l = absurd h
made_at pr n (i ∷ is) (q ∷ qs) zero h l = (q, h.0)
made_at pr n (i ∷ is) (q ∷ qs) (suc k) h l = made_at pr n is qs k h.1 (omega arith)

abbrev goal_rows : Option Affine → List Affine
goal_rows None = []
goal_rows (Some r) = r ∷ []

goal_made : (pr : AgentProblem) (n : ℕ) (l : Option LeaderPart) (o : Option Affine) → IsGoalMade pr n l o → AreMadeOf pr n (goal_items l) (goal_rows o)
goal_made pr n None None h = tt
goal_made pr n None (Some r) h = absurd h
goal_made pr n (Some l) None h = absurd h
goal_made pr n (Some l) (Some r) h = (h, tt)

-- a system leaves no quantity wide
pub system_not_wide : (pr : AgentProblem) (s : RowSystem) (k : ℕ) → KktGives pr (Ok s) → IsFirstWide pr (base_count pr) (numbered pr) k → ⊥
system_not_wide pr s k h w =
    let e = base_is pr s h in
    let qs = subst (λ b. AreMadeOf pr b (items pr) s.quantities) e h.quantities in
    let goal = subst (λ b. IsGoalMade pr b pr.leader s.objective) e h.objective in
    let r = made_at pr (base_count pr) (numbered pr) (s.quantities ++ goal_rows s.objective) w.at (made_append pr (base_count pr) (items pr) (goal_items pr.leader) s.quantities (goal_rows s.objective) qs (goal_made pr (base_count pr) pr.leader s.objective goal)) w.within in
    made_not_wide pr (base_count pr) (get_or (numbered pr) w.at Goal) r.0 r.1 w.wide

before_wide : (pr : AgentProblem) (n : ℕ) (is : List Item) (k h : ℕ) (v : IsFirstWide pr n is k) (w : IsFirstWide pr n is h) → v.at < w.at → ⊥
before_wide pr n is k h v w l =
    let in_is : w.at ≤ length is = (let b = w.within in omega arith) in
    let count = length-take-le w.at is in_is in
    let r = made_at pr n (take w.at is) w.rows v.at w.before (omega (arith, count, l)) in
    made_not_wide pr n (get_or is v.at Goal) r.0 (subst (λ (i : Item). IsMadeOf pr n i r.0) (get_or-take w.at is v.at Goal l) r.1) v.wide

wide_same : (pr : AgentProblem) (n : ℕ) (is : List Item) (k h : ℕ) → IsFirstWide pr n is k → IsFirstWide pr n is h → k ≡ h
wide_same pr n is k h v w = go (cases_order v.at w.at)
  where
    go : (v.at ≡ w.at) ⊎ ((v.at < w.at) ⊎ (w.at < v.at)) → k ≡ h
    go (inl e) = v.number ∙ (ap (λ i. i + 1) e ∙ sym w.number)
    go (inr (inl l)) = absurd (before_wide pr n is k h v w l)
    go (inr (inr l)) = absurd (before_wide pr n is h k w v l)

-- ---- the answer
pub one_system : OneSystem
one_system pr (Ok s) (Ok t) n o h k = ap Ok (systems_same pr s t h k)
one_system pr (Ok s) (Err TooLarge) n o h k = absurd (k h.fits)
one_system pr (Ok s) (Err (WideRow i)) n o h k = absurd (system_not_wide pr s i h k.1)
one_system pr (Err TooLarge) (Ok t) n o h k = absurd (h k.fits)
one_system pr (Err (WideRow i)) (Ok t) n o h k = absurd (system_not_wide pr t i k h.1)
one_system pr (Err TooLarge) (Err TooLarge) n o h k = refl
one_system pr (Err TooLarge) (Err (WideRow i)) n o h k = absurd (h k.0)
one_system pr (Err (WideRow i)) (Err TooLarge) n o h k = absurd (k h.0)
one_system pr (Err (WideRow i)) (Err (WideRow j)) n o h k = ap (λ i. Err (WideRow i)) (wide_same pr (base_count pr) (numbered pr) i j h.1 k.1)
one_system pr (Err NoMemory) s n o h k = absurd (n refl)
one_system pr r (Err NoMemory) n o h k = absurd (o refl)
