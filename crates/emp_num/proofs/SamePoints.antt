-- Points with equal coordinates.
use Rattle.std.proofs.Common.{◌≡◌, ◌⊎◌, inl, inr, ℕ, zero, suc, ◌<◌, ◌≤◌, ℤ, pos, ◌*ℤ◌, ◌<ℤ◌, List, [], ◌∷◌, length, map, get_or, unsigned_abs, int_div, arith, refl, sym, ap, ap₂, ◌∙◌}
use Rattle.std.proofs.lemmas.List.{get_or_past}
use Rattle.std.proofs.lemmas.Int.{ints}
use lib.IntN.{zero-*ℤ}
use Rattle.emp_algebra.proofs.Order.{cancel_right}
use Rattle.emp_algebra.proofs.Ring.{var, ◌⊗◌, by_ring}
use Rattle.emp_algebra.specs.Vector.{cell}
use Rattle.emp_num.specs.Gcd.{gcd_of}
use Rattle.emp_num.specs.Exact.{IsCoprime}
use Rattle.emp_num.specs.Ratio.{Ratio, ratio, SameRatio}
use Rattle.emp_num.specs.Point.{Point, coordinate, StandsFor}
use Rattle.emp_num.specs.SamePoint.{SamePoint, lowest, lowest_coordinates, ratios}
use Rattle.emp_num.specs.declared.frac.Frac.{Frac}
use Rattle.emp_num.proofs.Same.{same_value}
use Rattle.emp_num.proofs.Standing.{stands_at}
use Rattle.emp_num.proofs.Lowest.{same_lowest}
use Rattle.emp_num.proofs.Divisors.{IsGcd-gcd_of}
use Rattle.emp_num.proofs.Gcds.{quot_exact, divisor_pos, coprime_from_gcd, positive_from_product, cross}

-- ---- an equivalence
-- of three quotients the first is the third, where the second is both
pub cross_on : (a d b e c f : ℤ) → pos 0 <ℤ e → a *ℤ e ≡ b *ℤ d → b *ℤ f ≡ c *ℤ e → a *ℤ f ≡ c *ℤ d
cross_on a d b e c f p h k =
    cancel_right (a *ℤ f) (c *ℤ d) e
    (by_ring (a ∷ f ∷ e ∷ []) (var 0 ⊗ var 1 ⊗ var 2) (var 0 ⊗ var 2 ⊗ var 1) refl
    ∙ (ap (λ z. z *ℤ f) h
    ∙ (by_ring (b ∷ d ∷ f ∷ []) (var 0 ⊗ var 1 ⊗ var 2) (var 0 ⊗ var 2 ⊗ var 1) refl
    ∙ (ap (λ z. z *ℤ d) k ∙ by_ring (c ∷ e ∷ d ∷ []) (var 0 ⊗ var 1 ⊗ var 2) (var 0 ⊗ var 2 ⊗ var 1) refl)))) p

pub same_itself : (p : Point) → SamePoint p p
same_itself p = record { count = refl; same = λ k. refl }

pub same_back : (p q : Point) → SamePoint p q → SamePoint q p
same_back p q h = record { count = sym h.count; same = λ k. sym (h.same k) }

pub same_on : (p q r : Point) → SamePoint p q → SamePoint q r → SamePoint p r
same_on p q r h k = record {
  count = h.count ∙ k.count;
  same = λ j. cross_on (cell p.nums j) p.den (cell q.nums j) q.den (cell r.nums j) r.den q.positive (h.same j) (k.same j);
}

-- ---- lists of fractions
pub stands_respects : (fs : List Frac) (p q : Point) → StandsFor fs p → SamePoint p q → StandsFor fs q
stands_respects fs p q s h = record {
  count = sym h.count ∙ s.count;
  same = λ k f at. cross_on f.num f.den (cell p.nums k) p.den (cell q.nums k) q.den p.positive (s.same k f at) (h.same k);
}

-- past the end both coordinates are 0
past_end : (xs ys : List ℤ) (d e : ℤ) (k : ℕ) → length xs ≤ k → length ys ≤ k → cell xs k *ℤ e ≡ cell ys k *ℤ d
past_end xs ys d e k h l =
    ap (λ z. z *ℤ e) (get_or_past xs k (pos 0) h) ∙ (zero-*ℤ e ∙ (sym (zero-*ℤ d) ∙ ap (λ z. z *ℤ d) (sym (get_or_past ys k (pos 0) l))))

within : (k n : ℕ) → (k < n) ⊎ (n ≤ k)
within k n = grind arith

some_fraction : (fs : List Frac) (k : ℕ) → k < length fs → Frac
some_fraction [] k h = absurd (omega arith)
some_fraction (f ∷ fs) k h = f

pub stands_one_point : (fs : List Frac) (p q : Point) → StandsFor fs p → StandsFor fs q → SamePoint p q
stands_one_point fs p q s t = record { count = s.count ∙ sym t.count; same = λ k. go k (within k (length fs)) }
  where
    go : (k : ℕ) → (k < length fs) ⊎ (length fs ≤ k) → SameRatio (coordinate p k) (coordinate q k)
    go k (inl h) =
        let f = some_fraction fs k h in
        cross_on (cell p.nums k) p.den (get_or fs k f).num (get_or fs k f).den (cell q.nums k) q.den (get_or fs k f).positive (sym (stands_at fs p s k f h)) (stands_at fs q t k f h)
    go k (inr h) = past_end p.nums q.nums p.den q.den k (omega (arith, s.count)) (omega (arith, t.count))

-- lists of the same length with the same elements
same_list : (fs gs : List Frac) → length fs ≡ length gs → ((k : ℕ) (f : Frac) → k < length fs → get_or fs k f ≡ get_or gs k f) → fs ≡ gs
same_list [] [] e h = refl
same_list [] (g ∷ gs) e h = absurd (omega arith)
same_list (f ∷ fs) [] e h = absurd (omega arith)
same_list (f ∷ fs) (g ∷ gs) e h = ap₂ (λ (x : Frac) (xs : List Frac). x ∷ xs) (h 0 f (omega arith)) (same_list fs gs (omega arith) (λ k d l. h (suc k) d (omega arith)))

pub stands_one_list : (fs gs : List Frac) (p q : Point) → StandsFor fs p → StandsFor gs q → SamePoint p q → fs ≡ gs
stands_one_list fs gs p q s t h =
    same_list fs gs (sym s.count ∙ (h.count ∙ t.count))
    (λ k f l. same_value (get_or fs k f) (get_or gs k f)
    (cross_on (get_or fs k f).num (get_or fs k f).den (cell q.nums k) q.den (get_or gs k f).num (get_or gs k f).den q.positive
    (stands_at fs q (stands_respects fs p q s h) k f l)
    (sym (stands_at gs q t k f (omega (arith, s.count, t.count, h.count))))))

-- ---- lowest terms
pub record IsLowest (n d : ℤ) (r : Ratio) : Type 0 where
  pub positive : pos 0 <ℤ r.bottom
  pub coprime : IsCoprime r.top r.bottom
  pub same : r.top *ℤ d ≡ n *ℤ r.bottom

pub lowest_is : (n d : ℤ) → pos 0 <ℤ d → IsLowest n d (lowest n d)
lowest_is n d p =
    let g = gcd_of (unsigned_abs n) (unsigned_abs d) in
    let h = IsGcd-gcd_of (unsigned_abs n) (unsigned_abs d) in
    let above = divisor_pos d g h.1 p in
    let top = quot_exact n (pos g) h.0 in
    let bottom = quot_exact d (pos g) h.1 in
    record {
      positive = positive_from_product (int_div d (pos g)) (pos g) d bottom above p;
      coprime = coprime_from_gcd n d (int_div n (pos g)) (int_div d (pos g)) (pos g) h above top bottom;
      same = cross (int_div n (pos g)) (int_div d (pos g)) n d (pos g) top bottom;
    }

pub fraction_is_lowest : (f : Frac) (n d : ℤ) → pos 0 <ℤ d → f.num *ℤ d ≡ n *ℤ f.den → ratio f.num f.den ≡ lowest n d
fraction_is_lowest f n d p h =
    let l = lowest_is n d p in
    let e = same_lowest f.num f.den (lowest n d).top (lowest n d).bottom f.lowest l.coprime f.positive l.positive (cross_on f.num f.den n d (lowest n d).top (lowest n d).bottom p h (sym l.same)) in
    ap₂ (λ (x y : ℤ). ratio x y) e.0 e.1

lowest_list : (fs : List Frac) (d : ℤ) (xs : List ℤ) → pos 0 <ℤ d → length xs ≡ length fs → ((k : ℕ) (f : Frac) → k < length fs → (get_or fs k f).num *ℤ d ≡ cell xs k *ℤ (get_or fs k f).den) → ratios fs ≡ map (λ n. lowest n d) xs
lowest_list [] d [] p e h = refl
lowest_list [] d (x ∷ xs) p e h = absurd (omega arith)
lowest_list (f ∷ fs) d [] p e h = absurd (omega arith)
lowest_list (f ∷ fs) d (x ∷ xs) p e h =
    ap₂ (λ (r : Ratio) (rs : List Ratio). r ∷ rs) (fraction_is_lowest f x d p (h 0 f (omega arith))) (lowest_list fs d xs p (omega arith) (λ k g l. h (suc k) g (omega arith)))

pub lowest_are_fractions : (fs : List Frac) (p : Point) → StandsFor fs p → ratios fs ≡ lowest_coordinates p
lowest_are_fractions fs p s = lowest_list fs p.den p.nums p.positive s.count (stands_at fs p s)

-- they are the same for the same point
lowest_same_ratio : (n d m e : ℤ) → pos 0 <ℤ d → pos 0 <ℤ e → n *ℤ e ≡ m *ℤ d → lowest n d ≡ lowest m e
lowest_same_ratio n d m e p r h =
    let a = lowest_is n d p in
    let b = lowest_is m e r in
    let s = same_lowest (lowest n d).top (lowest n d).bottom (lowest m e).top (lowest m e).bottom a.coprime b.coprime a.positive b.positive
    (cross_on (lowest n d).top (lowest n d).bottom n d (lowest m e).top (lowest m e).bottom p a.same (cross_on n d m e (lowest m e).top (lowest m e).bottom r h (sym b.same))) in
    ap₂ (λ (x y : ℤ). ratio x y) s.0 s.1

lowest_same_list : (d e : ℤ) (xs ys : List ℤ) → pos 0 <ℤ d → pos 0 <ℤ e → length xs ≡ length ys → ((k : ℕ) → cell xs k *ℤ e ≡ cell ys k *ℤ d) → map (λ n. lowest n d) xs ≡ map (λ n. lowest n e) ys
lowest_same_list d e [] [] p r l h = refl
lowest_same_list d e [] (y ∷ ys) p r l h = absurd (omega arith)
lowest_same_list d e (x ∷ xs) [] p r l h = absurd (omega arith)
lowest_same_list d e (x ∷ xs) (y ∷ ys) p r l h = ap₂ (λ (s : Ratio) (rs : List Ratio). s ∷ rs) (lowest_same_ratio x d y e p r (h 0)) (lowest_same_list d e xs ys p r (omega arith) (λ k. h (suc k)))

pub lowest_of_same : (p q : Point) → SamePoint p q → lowest_coordinates p ≡ lowest_coordinates q
lowest_of_same p q h = lowest_same_list p.den q.den p.nums q.nums p.positive q.positive h.count h.same

-- ---- worked examples
no_cell : (k : ℕ) → cell [] k ≡ pos 0
no_cell k = get_or_past [] k (pos 0) (omega arith)

pub halves : (p q : Point) → p.den ≡ pos 2 → p.nums ≡ pos 1 ∷ [] → q.den ≡ pos 4 → q.nums ≡ pos 2 ∷ [] → SamePoint p q
halves p q d xs e ys = record {
  count = ap length xs ∙ sym (ap length ys);
  same = λ k. ap₂ (λ (a : List ℤ) (b : ℤ). cell a k *ℤ b) xs e ∙ (go k ∙ sym (ap₂ (λ (a : List ℤ) (b : ℤ). cell a k *ℤ b) ys d));
}
  where
    go : (k : ℕ) → cell (pos 1 ∷ []) k *ℤ pos 4 ≡ cell (pos 2 ∷ []) k *ℤ pos 2
    go zero = refl
    go (suc k) = ap (λ a. a *ℤ pos 4) (no_cell k) ∙ sym (ap (λ a. a *ℤ pos 2) (no_cell k))

pub thirds : (p q : Point) → p.den ≡ pos 2 → p.nums ≡ pos 1 ∷ [] → q.den ≡ pos 3 → q.nums ≡ pos 1 ∷ [] → SamePoint p q → ⊥
thirds p q d xs e ys h =
    let same : pos 3 ≡ pos 2 = sym (ap₂ (λ (a : List ℤ) (b : ℤ). cell a 0 *ℤ b) xs e) ∙ (h.same 0 ∙ ap₂ (λ (a : List ℤ) (b : ℤ). cell a 0 *ℤ b) ys d) in
    omega (arith, ints, same)

pub missing : (p q : Point) → p.nums ≡ pos 0 ∷ [] → q.nums ≡ [] → SamePoint p q → ⊥
missing p q xs ys h = let none : 1 ≡ 0 = sym (ap length xs) ∙ (h.count ∙ ap length ys) in omega (arith, none)
