-- The two systems of a piece.
use Rattle.std.proofs.Common.{◌≡◌, ◌⊎◌, inl, inr, ℕ, zero, suc, ◌<◌, ◌≤◌, ℤ, pos, negsuc, neg_ℤ, ◌+ℤ◌, ◌-ℤ◌, ◌*ℤ◌, ◌≤ℤ◌, ◌<ℤ◌, List, [], ◌∷◌, All, length, slice_index_or, arith, refl, sym, ap, ap₂, subst, ◌∙◌}
use Rattle.std.proofs.lemmas.List.Elements.{All-nil, All-cons, All-head, All-tail}
use Rattle.std.proofs.lemmas.Int.{ints}
use lib.IntN.{zero-*ℤ, *ℤ-zero}
use Rattle.emp_algebra.proofs.Ring.{var, lit, neg, ◌⊕◌, ◌⊖◌, ◌⊗◌, by_ring}
use Rattle.emp_algebra.proofs.Laws.{mul_nonneg, mul_pos}
use Rattle.emp_algebra.proofs.Order.{linear}
use Rattle.emp_algebra.proofs.Vectors.{dot-scale, dot_comm, dot-zeros, length-scale}
use Rattle.emp_algebra.specs.Vector.{cell, dot, scale, add_rows}
use Rattle.emp_algebra.specs.Deciding.{Kind, Zero, Nonneg, Weighted, value_times, IsOfKind, FactorFits, Meets}
use Rattle.emp_systems.specs.Systems.{weigh, MetSomewhere}
use Rattle.emp_systems.specs.Steps.{Quadratic, value_squared, IsBelow}
use Rattle.emp_systems.specs.Multipliers.{IsWithin, IsLeast, Multipliers}
use Rattle.emp_systems.proofs.Forms.{value-line}
use Rattle.emp_systems.proofs.Least.{least_has_multipliers}
use Rattle.emp_systems.proofs.Scaled.{value_scaled, gradient_scaled}
use Rattle.emp_game.specs.Conditions.{row_of, column}
use Rattle.emp_least.specs.Least.{IsConvex, IsFlat, Way, LeastPoint}
use Rattle.emp_least.specs.Rows.{slope}
use Rattle.emp_least.specs.Systems.{SolvesRay, MemberHolds, MembersHold, SolvesOptimum, RaySomewhere, OptimumSomewhere}
use Rattle.emp_least.proofs.Lines.{kind_times, length_line, meets_line}
use Rattle.emp_least.proofs.Flat.{flat_gradient, flat_square}
use Rattle.emp_least.proofs.Levels.{dot-slope, level_value}
use Rattle.emp_least.proofs.Fixed.{optimum_is_least}
use Rattle.emp_least.proofs.Down.{way_or_least}

-- ---- steps
times_right : (r : List ℤ) (h : ℤ) (xs : List ℤ) → dot r (scale h xs) ≡ h *ℤ dot r xs
times_right r h xs = dot_comm r (scale h xs) ∙ (dot-scale h xs r ∙ ap (λ z. h *ℤ z) (dot_comm xs r))

pub way_is_ray : (over : ℤ) (n : ℕ) (q : Quadratic) (ws : List Weighted) → pos 0 <ℤ over → Way n q ws → RaySomewhere over n q ws
way_is_ray over n q ws p v = record {
  den = neg_ℤ (dot q.linear v.step);
  nums = scale over v.step;
  positive = let f = v.falls in omega (arith, linear, f);
  solves = record {
    count = length-scale over v.step ∙ v.count;
    keeps = λ k d h. subst (λ z. IsOfKind (slice_index_or ws k d).kind z) (sym (times_right (slice_index_or ws k d).cells over v.step)) (kind_times (slice_index_or ws k d).kind over (dot (slice_index_or ws k d).cells v.step) (omega (arith, linear, p)) (v.keeps k d h));
    flat = λ k l. times_right (slope q.square k) over v.step ∙ (ap (λ z. over *ℤ z) (dot-slope q.square v.step k ∙ v.flat k) ∙ *ℤ-zero over);
    falls = ap (λ z. over *ℤ neg_ℤ (dot q.linear v.step) +ℤ z) (times_right q.linear over v.step) ∙ by_ring (over ∷ dot q.linear v.step ∷ []) (var 0 ⊗ neg (var 1) ⊕ var 0 ⊗ var 1) (lit (pos 0)) refl;
  };
}

-- beyond the coordinates nothing is named
row_past : (m : List (List ℤ)) (k : ℕ) → length m ≤ k → row_of m k ≡ []
row_past [] k h = refl
row_past (r ∷ rs) zero h = absurd (omega arith)
row_past (r ∷ rs) (suc k) h = row_past rs k (omega arith)

cell_past : (r : List ℤ) (k : ℕ) → length r ≤ k → cell r k ≡ pos 0
cell_past [] k h = refl
cell_past (a ∷ r) zero h = absurd (omega arith)
cell_past (a ∷ r) (suc k) h = cell_past r k (omega arith)

column_past : (n : ℕ) (m : List (List ℤ)) (k : ℕ) → All (λ r. length r ≤ n) m → n ≤ k → All (λ a. a ≡ pos 0) (column m k)
column_past n [] k h l = All-nil (λ a. a ≡ pos 0)
column_past n (r ∷ rs) k h l =
    All-cons (λ a. a ≡ pos 0) (cell r k) (column rs k) (cell_past r k (let s = All-head (λ r. length r ≤ n) r rs h in omega arith)) (column_past n rs k (All-tail (λ r. length r ≤ n) r rs h) l)

slope_past : (n : ℕ) (m : List (List ℤ)) (k : ℕ) (xs : List ℤ) → length m ≤ n → All (λ r. length r ≤ n) m → n ≤ k → dot (slope m k) xs ≡ pos 0
slope_past n m k xs rows cells l = ap (λ r. dot (add_rows r (column m k)) xs) (row_past m k (omega arith)) ∙ dot-zeros (column m k) xs (column_past n m k cells l)

below_or_past : (k n : ℕ) → (k < n) ⊎ (n ≤ k)
below_or_past k n = grind arith

pub ray_is_flat : (over : ℤ) (n : ℕ) (q : Quadratic) (ws : List Weighted) (d : ℤ) (vs : List ℤ) → IsWithin n q ws → SolvesRay over n q ws d vs → IsFlat q.square vs
ray_is_flat over n q ws d vs within s k = sym (dot-slope q.square vs k) ∙ go (below_or_past k n)
  where
    go : (k < n) ⊎ (n ≤ k) → dot (slope q.square k) vs ≡ pos 0
    go (inl l) = s.flat k l
    go (inr l) = slope_past n q.square k vs within.rows within.cells l

pub ray_falls : (over : ℤ) (n : ℕ) (q : Quadratic) (ws : List Weighted) (d : ℤ) (vs : List ℤ) → pos 0 <ℤ over → IsWithin n q ws → pos 0 <ℤ d → SolvesRay over n q ws d vs → (e : ℤ) (ys : List ℤ) → pos 0 <ℤ e → length ys ≡ n → Meets ws e ys
    → (pos 0 <ℤ (d *ℤ e)) × (length (add_rows (scale d ys) (scale e vs)) ≡ n) × Meets ws (d *ℤ e) (add_rows (scale d ys) (scale e vs)) × IsBelow q (d *ℤ e) (add_rows (scale d ys) (scale e vs)) e ys
ray_falls over n q ws d vs o within p s e ys r l m = (
  mul_pos d e p r,
  length_line n d ys e vs l s.count,
  meets_line ws e ys vs d e (omega (arith, linear, p)) (omega (arith, linear, r)) m s.keeps,
  below,
)
  where
    below : IsBelow q (d *ℤ e) (add_rows (scale d ys) (scale e vs)) e ys
    below =
        let flat = ray_is_flat over n q ws d vs within s in
        let V = value_squared q e ys in
        let c = dot q.linear vs in
        let down : pos 0 <ℤ neg_ℤ c = (let od = mul_pos over d o p in let f = s.falls in omega (arith, linear, od, f)) in
        let here : value_squared q (d *ℤ e) (add_rows (scale d ys) (scale e vs)) ≡ d *ℤ d *ℤ V +ℤ d *ℤ e *ℤ (e *ℤ c) +ℤ e *ℤ e *ℤ pos 0 =
        value-line q e ys vs d e ∙ ap₂ (λ x y. d *ℤ d *ℤ V +ℤ d *ℤ e *ℤ x +ℤ e *ℤ e *ℤ y) (flat_gradient q e ys vs flat) (flat_square q.square vs flat) in
        let gap = mul_pos (neg_ℤ c) (d *ℤ e *ℤ e *ℤ (e *ℤ e)) down (mul_pos (d *ℤ e *ℤ e) (e *ℤ e) (mul_pos (d *ℤ e) e (mul_pos d e p r) r) (mul_pos e e r r)) in
        let e1 : (d *ℤ d *ℤ V +ℤ d *ℤ e *ℤ (e *ℤ c) +ℤ e *ℤ e *ℤ pos 0) *ℤ (e *ℤ e) ≡ V *ℤ (d *ℤ e *ℤ (d *ℤ e)) -ℤ neg_ℤ c *ℤ (d *ℤ e *ℤ e *ℤ (e *ℤ e)) =
        by_ring (d ∷ e ∷ V ∷ c ∷ []) ((var 0 ⊗ var 0 ⊗ var 2 ⊕ var 0 ⊗ var 1 ⊗ (var 1 ⊗ var 3) ⊕ var 1 ⊗ var 1 ⊗ lit (pos 0)) ⊗ (var 1 ⊗ var 1)) (var 2 ⊗ (var 0 ⊗ var 1 ⊗ (var 0 ⊗ var 1)) ⊖ neg (var 3) ⊗ (var 0 ⊗ var 1 ⊗ var 1 ⊗ (var 1 ⊗ var 1))) refl in
        let turn = ap (λ z. z *ℤ (e *ℤ e)) here in
        omega (arith, linear, gap, e1, turn)

-- ---- least points
member_kind : (k : Kind) (v u : ℤ) → MemberHolds k v u → IsOfKind k v
member_kind Zero v u h = h
member_kind Nonneg v u h = h.1

member_fits : (k : Kind) (v u : ℤ) → MemberHolds k v u → FactorFits k u
member_fits Zero v u h = tt
member_fits Nonneg v u h = h.0

member_slack : (k : Kind) (v u : ℤ) → MemberHolds k v u → u *ℤ v ≡ pos 0
member_slack Zero v u h = ap (λ z. u *ℤ z) h ∙ *ℤ-zero u
member_slack Nonneg v u h = go h.2
  where
    go : (u ≡ pos 0) ⊎ (v ≡ pos 0) → u *ℤ v ≡ pos 0
    go (inl e) = ap (λ z. z *ℤ v) e ∙ zero-*ℤ v
    go (inr e) = ap (λ z. u *ℤ z) e ∙ *ℤ-zero u

members_meet : (ws : List Weighted) (d : ℤ) (xs us : List ℤ) → MembersHold ws d xs us → Meets ws d xs
members_meet [] d xs us h = All-nil (λ w. IsOfKind w.kind (value_times w.constant w.cells d xs))
members_meet (w ∷ ws) d xs [] h = absurd h
members_meet (w ∷ ws) d xs (u ∷ us) h =
    All-cons (λ w. IsOfKind w.kind (value_times w.constant w.cells d xs)) w ws (member_kind w.kind (value_times w.constant w.cells d xs) u h.0) (members_meet ws d xs us h.1)

abbrev Fits : Weighted → Type 0
Fits w = FactorFits w.kind w.factor

abbrev Slack : ℤ → List ℤ → Weighted → Type 0
Slack d xs w = w.factor *ℤ value_times w.constant w.cells d xs ≡ pos 0

members_fit : (ws : List Weighted) (d : ℤ) (xs us : List ℤ) → MembersHold ws d xs us → All Fits (weigh ws us)
members_fit [] d xs us h = All-nil Fits
members_fit (w ∷ ws) d xs [] h = absurd h
members_fit (w ∷ ws) d xs (u ∷ us) h =
    All-cons Fits (record { factor = u; kind = w.kind; constant = w.constant; cells = w.cells }) (weigh ws us) (member_fits w.kind (value_times w.constant w.cells d xs) u h.0) (members_fit ws d xs us h.1)

members_slack : (ws : List Weighted) (d : ℤ) (xs us : List ℤ) → MembersHold ws d xs us → All (Slack d xs) (weigh ws us)
members_slack [] d xs us h = All-nil (Slack d xs)
members_slack (w ∷ ws) d xs [] h = absurd h
members_slack (w ∷ ws) d xs (u ∷ us) h =
    All-cons (Slack d xs) (record { factor = u; kind = w.kind; constant = w.constant; cells = w.cells }) (weigh ws us) (member_slack w.kind (value_times w.constant w.cells d xs) u h.0) (members_slack ws d xs us h.1)

pub optimum_least : (n : ℕ) (q : Quadratic) (ws : List Weighted) (d : ℤ) (xs us : List ℤ) → IsWithin n q ws → IsConvex q.square → pos 0 <ℤ d → SolvesOptimum n q ws d xs us → Meets ws d xs × IsLeast n q ws d xs
optimum_least n q ws d xs us within convex p s = (
  members_meet ws d xs us s.members,
  optimum_is_least n q ws d xs us convex p s.count
      (λ k l. let z = s.levels k l in let v = level_value n q ws k d xs us within.rows within.cells s.count in omega (arith, linear, z, v))
      (members_fit ws d xs us s.members) (members_slack ws d xs us s.members),
)

-- of two numbers of at least 0 whose product is 0 one is 0
one_is_none : (u v : ℤ) → pos 0 ≤ℤ u → pos 0 ≤ℤ v → u *ℤ v ≡ pos 0 → (u ≡ pos 0) ⊎ (v ≡ pos 0)
one_is_none (pos zero) v h k e = inl refl
one_is_none (pos (suc m)) (pos zero) h k e = inr refl
one_is_none (pos (suc m)) (pos (suc l)) h k e = let p = mul_pos (pos (suc m)) (pos (suc l)) (omega (arith, ints)) (omega (arith, ints)) in absurd (omega (arith, linear, p, e))
one_is_none (pos (suc m)) (negsuc l) h k e = absurd k.le
one_is_none (negsuc m) v h k e = absurd h.le

member_of : (k : Kind) (h v u : ℤ) → pos 0 <ℤ h → IsOfKind k v → FactorFits k u → u *ℤ v ≡ pos 0 → MemberHolds k (h *ℤ v) u
member_of Zero h v u p m f e = ap (λ z. h *ℤ z) m ∙ *ℤ-zero h
member_of Nonneg h v u p m f e = (f, mul_nonneg h v (omega (arith, linear, p)) m, go (one_is_none u v f m e))
  where
    go : (u ≡ pos 0) ⊎ (v ≡ pos 0) → (u ≡ pos 0) ⊎ (h *ℤ v ≡ pos 0)
    go (inl z) = inl z
    go (inr z) = inr (ap (λ x. h *ℤ x) z ∙ *ℤ-zero h)

members_of : (h d : ℤ) (xs : List ℤ) (ws : List Weighted) (us : List ℤ) → pos 0 <ℤ h → length us ≡ length ws → Meets ws d xs → All Fits (weigh ws us) → All (Slack d xs) (weigh ws us) → MembersHold ws (h *ℤ d) (scale h xs) us
members_of h d xs [] [] p c m f s = refl
members_of h d xs [] (u ∷ us) p c m f s = absurd (omega arith)
members_of h d xs (w ∷ ws) [] p c m f s = absurd (omega arith)
members_of h d xs (w ∷ ws) (u ∷ us) p c m f s =
    let v : Weighted = record { factor = u; kind = w.kind; constant = w.constant; cells = w.cells } in (
      subst (λ z. MemberHolds w.kind z u) (sym (value_scaled w.constant w.cells h d xs)) (member_of w.kind h (value_times w.constant w.cells d xs) u p (All-head (λ w. IsOfKind w.kind (value_times w.constant w.cells d xs)) w ws m) (All-head Fits v (weigh ws us) f) (All-head (Slack d xs) v (weigh ws us) s)),
      members_of h d xs ws us p (omega arith) (All-tail (λ w. IsOfKind w.kind (value_times w.constant w.cells d xs)) w ws m) (All-tail Fits v (weigh ws us) f) (All-tail (Slack d xs) v (weigh ws us) s),
    )

pub least_is_optimum : (n : ℕ) (q : Quadratic) (ws : List Weighted) (d : ℤ) (xs : List ℤ) → IsWithin n q ws → pos 0 <ℤ d → length xs ≡ n → Meets ws d xs → IsLeast n q ws d xs
    → (h : ℤ) × (pos 0 <ℤ h) × ((us : List ℤ) × SolvesOptimum n q ws (h *ℤ d) (scale h xs) us)
least_is_optimum n q ws d xs within p c m least = go (least_has_multipliers n q ws d xs within p c m least)
  where
    go : Multipliers q ws d xs → (h : ℤ) × (pos 0 <ℤ h) × ((us : List ℤ) × SolvesOptimum n q ws (h *ℤ d) (scale h xs) us)
    go t = (
      t.weight,
      t.positive,
      (
        t.factors,
        record {
          count = length-scale t.weight xs ∙ c;
          levels = λ k l.
              let v = level_value n q ws k (t.weight *ℤ d) (scale t.weight xs) t.factors within.rows within.cells (length-scale t.weight xs ∙ c) in
              let g = gradient_scaled t.weight q d xs k in
              let e = t.level k in
              omega (arith, linear, v, g, e);
          members = members_of t.weight d xs ws t.factors t.positive t.count m t.fit t.slack;
        },
      ),
    )

pub ray_or_optimum : (over : ℤ) (n : ℕ) (q : Quadratic) (ws : List Weighted) → pos 0 <ℤ over → IsWithin n q ws → IsConvex q.square → MetSomewhere n ws → RaySomewhere over n q ws ⊎ OptimumSomewhere n q ws
ray_or_optimum over n q ws o within convex m = go (way_or_least n q ws within convex m)
  where
    from : (l : LeastPoint n q ws) → (h : ℤ) × (pos 0 <ℤ h) × ((us : List ℤ) × SolvesOptimum n q ws (h *ℤ l.den) (scale h l.nums) us) → OptimumSomewhere n q ws
    from l (h, p, (us, s)) = record { den = h *ℤ l.den; nums = scale h l.nums; multipliers = us; positive = mul_pos h l.den p l.positive; solves = s }

    go : Way n q ws ⊎ LeastPoint n q ws → RaySomewhere over n q ws ⊎ OptimumSomewhere n q ws
    go (inl v) = inl (way_is_ray over n q ws o v)
    go (inr l) = inr (from l (least_is_optimum n q ws l.den l.nums within l.positive l.count l.meets l.least))
