-- Whether a fold of exact calls is wide is decided: what it gives is found, or it gives none.
use Rattle.std.proofs.Common.{◌≡◌, ◌⊎◌, inl, inr, ℕ, zero, suc, ◌<◌, ◌≤◌, ◌^◌, ℤ, pos, ◌+ℤ◌, ◌*ℤ◌, ◌<ℤ◌, List, [], ◌∷◌, length, get_or, unsigned_abs, arith, refl, ap, subst, subst₂}
use Rattle.std.proofs.lemmas.Bool.{cases_lt}
use Rattle.emp_algebra.specs.Vector.{cell}
use Rattle.emp_algebra.proofs.Laws.{mul_pos}
use Rattle.emp_num.specs.Exact.{IsNarrow, IsWide}
use Rattle.emp_num.specs.FracSpec.{IsQuotient, AddsWide, MultipliesWide}
use Rattle.emp_num.specs.Ratio.{Ratio}
use Rattle.emp_num.specs.Point.{Point, StandsFor}
use Rattle.emp_num.specs.SamePoint.{lowest}
use Rattle.emp_num.specs.declared.frac.Frac.{Frac}
use Rattle.emp_num.proofs.SamePoints.{lowest_is, fraction_is_lowest}
use Rattle.emp_num.proofs.Standing.{stands_at, stands_from}
use Rattle.emp_ast.specs.declared.tree.VarId.{VarId}
use Rattle.emp_form.specs.Calls.{Formula, given, added, multiplied, Gives, HasWideCall}
use Rattle.emp_form.proofs.Running.{gives_one, narrow_not_wide}
use Rattle.emp_poly.specs.Written.{entry, linear_term, linear_from, square_term, square_from, written_value}
use Rattle.emp_poly.specs.declared.quad.Quad.{Quad}

-- the fact, or that it is not so
abbrev pub Decided : Type 0 → Type 0
Decided P = P ⊎ (P → ⊥)

either : (P Q : Type 0) → Decided P → Decided Q → Decided (P ⊎ Q)
either P Q (inl p) q = inl (inl p)
either P Q (inr p) (inl q) = inl (inr q)
either P Q (inr p) (inr q) = inr (elim [ inl h ↦ p h | inr h ↦ q h ])

-- ---- the first number below n that has the property
pub record IsFirstOf (P : ℕ → Type 0) (n k : ℕ) : Type 0 where
  pub below : k < n
  pub here : P k
  pub before : (j : ℕ) → j < k → P j → ⊥

abbrev pub NoneOf : (ℕ → Type 0) → ℕ → Type 0
NoneOf P n = (k : ℕ) → k < n → P k → ⊥

abbrev pub First : (ℕ → Type 0) → ℕ → Type 0
First P n = ((k : ℕ) × IsFirstOf P n k) ⊎ NoneOf P n

here_or_below : (k n : ℕ) → k < suc n → (k < n) ⊎ (k ≡ n)
here_or_below k n l = grind arith

pub first_of : (P : ℕ → Type 0) → ((k : ℕ) → Decided (P k)) → (n : ℕ) → First P n
first_of P known zero = inr (λ k l. absurd (omega arith))
first_of P known (suc n) = go (first_of P known n) (known n)
  where
    later : NoneOf P n → (P n → ⊥) → NoneOf P (suc n)
    later none never k l h = by_place (here_or_below k n l)
      where
        by_place : (k < n) ⊎ (k ≡ n) → ⊥
        by_place (inl s) = none k s h
        by_place (inr e) = never (subst P e h)

    go : First P n → Decided (P n) → First P (suc n)
    go (inl t) d = let l : t.0 < n = t.1.below in inl (t.0, record { below = omega arith; here = t.1.here; before = t.1.before })
    go (inr none) (inl h) = inl (n, record { below = omega arith; here = h; before = none })
    go (inr none) (inr never) = inr (later none never)

-- ---- numbers
narrow_decided : (z : ℤ) → Decided (IsNarrow z)
narrow_decided z = go (cases_lt (unsigned_abs z) (2 ^ 126))
  where
    go : (unsigned_abs z < 2 ^ 126) ⊎ (2 ^ 126 ≤ unsigned_abs z) → Decided (IsNarrow z)
    go (inl l) = inl l
    go (inr w) = inr (λ l. narrow_not_wide z l w)

wide_decided : (z : ℤ) → Decided (IsWide z)
wide_decided z = go (cases_lt (unsigned_abs z) (2 ^ 126))
  where
    go : (unsigned_abs z < 2 ^ 126) ⊎ (2 ^ 126 ≤ unsigned_abs z) → Decided (IsWide z)
    go (inl l) = inr (λ w. narrow_not_wide z l w)
    go (inr w) = inl w

-- ---- fractions
abbrev pub Found : (Frac → Type 0) → Type 0
Found P = ((r : Frac) × P r) ⊎ ((r : Frac) → P r → ⊥)

pub quotient_found : (n d : ℤ) → pos 0 <ℤ d → Found (λ r. IsQuotient r n d)
quotient_found n d p = go (narrow_decided q.top) (narrow_decided q.bottom)
  where
    q : Ratio
    q = lowest n d

    go : Decided (IsNarrow (lowest n d).top) → Decided (IsNarrow (lowest n d).bottom) → Found (λ r. IsQuotient r n d)
    go (inl top) (inl bottom) = let l = lowest_is n d p in inl (record { num = (lowest n d).top; den = (lowest n d).bottom; positive = l.positive; num_narrow = top; den_narrow = bottom; lowest = l.coprime }, l.same)
    go (inl top) (inr never) = inr (λ r h. never (subst IsNarrow (ap (λ (x : Ratio). x.bottom) (fraction_is_lowest r n d p h)) r.den_narrow))
    go (inr never) b = inr (λ r h. never (subst IsNarrow (ap (λ (x : Ratio). x.top) (fraction_is_lowest r n d p h)) r.num_narrow))

-- ---- formulas
pub record Known (f : Formula) : Type 0 where
  pub value : Found (Gives f)
  pub wide : Decided (HasWideCall f)

known_given : (f : Frac) → Known (given f)
known_given f = record { value = inl (f, refl); wide = inr (λ h. h) }

-- what both give, with a property
pair_decided : (s t : Formula) (W : Frac → Frac → Type 0) → ((x y : Frac) → Decided (W x y)) → Found (Gives s) → Found (Gives t) → Decided ((x : Frac) × (y : Frac) × Gives s x × Gives t y × W x y)
pair_decided s t W known (inr never) q = inr (λ h. never h.0 h.2)
pair_decided s t W known (inl x) (inr never) = inr (λ h. never h.1 h.3)
pair_decided s t W known (inl x) (inl y) = go (known x.0 y.0)
  where
    go : Decided (W x.0 y.0) → Decided ((a : Frac) × (b : Frac) × Gives s a × Gives t b × W a b)
    go (inl w) = inl (x.0, y.0, x.1, y.1, w)
    go (inr never) = inr (λ h. never (subst₂ (λ (a b : Frac). W a b) (gives_one s h.0 x.0 h.2 x.1) (gives_one t h.1 y.0 h.3 y.1) h.4))

-- what one more call gives of what both give
call_found : (s t : Formula) (top : Frac → Frac → ℤ) → Found (Gives s) → Found (Gives t) → Found (λ r. (x : Frac) × (y : Frac) × Gives s x × Gives t y × IsQuotient r (top x y) (x.den *ℤ y.den))
call_found s t top (inr never) q = inr (λ r h. never h.0 h.2)
call_found s t top (inl x) (inr never) = inr (λ r h. never h.1 h.3)
call_found s t top (inl x) (inl y) = go (quotient_found (top x.0 y.0) (x.0.den *ℤ y.0.den) (mul_pos x.0.den y.0.den x.0.positive y.0.positive))
  where
    go : Found (λ r. IsQuotient r (top x.0 y.0) (x.0.den *ℤ y.0.den)) → Found (λ r. (a : Frac) × (b : Frac) × Gives s a × Gives t b × IsQuotient r (top a b) (a.den *ℤ b.den))
    go (inl r) = inl (r.0, (x.0, y.0, x.1, y.1, r.1))
    go (inr never) = inr (λ r h. never r (subst₂ (λ (a b : Frac). IsQuotient r (top a b) (a.den *ℤ b.den)) (gives_one s h.0 x.0 h.2 x.1) (gives_one t h.1 y.0 h.3 y.1) h.4))

adds_decided : (x y : Frac) → Decided (AddsWide x y)
adds_decided x y =
    let last = either (IsWide (x.num *ℤ y.den +ℤ y.num *ℤ x.den)) (IsWide (x.den *ℤ y.den)) (wide_decided (x.num *ℤ y.den +ℤ y.num *ℤ x.den)) (wide_decided (x.den *ℤ y.den)) in
    let rest = either (IsWide (y.num *ℤ x.den)) (IsWide (x.num *ℤ y.den +ℤ y.num *ℤ x.den) ⊎ IsWide (x.den *ℤ y.den)) (wide_decided (y.num *ℤ x.den)) last in
    either (IsWide (x.num *ℤ y.den)) (IsWide (y.num *ℤ x.den) ⊎ (IsWide (x.num *ℤ y.den +ℤ y.num *ℤ x.den) ⊎ IsWide (x.den *ℤ y.den))) (wide_decided (x.num *ℤ y.den)) rest

multiplies_decided : (x y : Frac) → Decided (MultipliesWide x y)
multiplies_decided x y = either (IsWide (x.num *ℤ y.num)) (IsWide (x.den *ℤ y.den)) (wide_decided (x.num *ℤ y.num)) (wide_decided (x.den *ℤ y.den))

abbrev Late : Formula → Formula → (Frac → Frac → Type 0) → Type 0
Late s t W = (x : Frac) × (y : Frac) × Gives s x × Gives t y × W x y

known_added : (s t : Formula) → Known s → Known t → Known (added s t)
known_added s t a b = record {
  value = call_found s t (λ x y. x.num *ℤ y.den +ℤ y.num *ℤ x.den) a.value b.value;
  wide = either (HasWideCall s) (HasWideCall t ⊎ Late s t AddsWide) a.wide (either (HasWideCall t) (Late s t AddsWide) b.wide (pair_decided s t AddsWide adds_decided a.value b.value));
}

known_multiplied : (s t : Formula) → Known s → Known t → Known (multiplied s t)
known_multiplied s t a b = record {
  value = call_found s t (λ x y. x.num *ℤ y.num) a.value b.value;
  wide = either (HasWideCall s) (HasWideCall t ⊎ Late s t MultipliesWide) a.wide (either (HasWideCall t) (Late s t MultipliesWide) b.wide (pair_decided s t MultipliesWide multiplies_decided a.value b.value));
}

-- ---- written folds
pub linear_known : (ts : List (VarId × Frac)) (xs : List Frac) (s : Formula) → Known s → Known (linear_from s ts xs)
linear_known [] xs s k = k
linear_known (t ∷ ts) xs s k =
    let x = entry xs t.0.at in
    linear_known ts xs (linear_term s t xs) (known_added s (multiplied (given t.1) (given x)) k (known_multiplied (given t.1) (given x) (known_given t.1) (known_given x)))

square_known : (ts : List (VarId × VarId × Frac)) (xs : List Frac) (s : Formula) → Known s → Known (square_from s ts xs)
square_known [] xs s k = k
square_known (t ∷ ts) xs s k =
    let x = entry xs t.0.at in
    let y = entry xs t.1.at in
    let both = known_multiplied (given x) (given y) (known_given x) (known_given y) in
    square_known ts xs (square_term s t xs) (known_added s (multiplied (given t.2) (multiplied (given x) (given y))) k (known_multiplied (given t.2) (multiplied (given x) (given y)) (known_given t.2) both))

pub line_known : (c : Frac) (ts : List (VarId × Frac)) (xs : List Frac) → Known (linear_from (given c) ts xs)
line_known c ts xs = linear_known ts xs (given c) (known_given c)

pub written_known : (q : Quad) (xs : List Frac) → Known (written_value q xs)
written_known q xs = square_known q.square xs (linear_from (given q.constant) q.linear xs) (line_known q.constant q.linear xs)

-- ---- points
-- the list stands for the point, or none does
pub record AreQuotients (fs : List Frac) (xs : List ℤ) (d : ℤ) : Type 0 where
  pub count : length xs ≡ length fs
  pub each : (k : ℕ) (f : Frac) → k < length fs → IsQuotient (get_or fs k f) (cell xs k) d

abbrev pub Listed : (List Frac → Type 0) → Type 0
Listed P = ((fs : List Frac) × P fs) ⊎ ((fs : List Frac) → P fs → ⊥)

first_quotient : (fs : List Frac) (x : ℤ) (xs : List ℤ) (d : ℤ) → AreQuotients fs (x ∷ xs) d → (r : Frac) × (rs : List Frac) × IsQuotient r x d × AreQuotients rs xs d
first_quotient [] x xs d h = absurd (let c = h.count in omega arith)
first_quotient (f ∷ fs) x xs d h = (f, fs, h.each 0 f (omega arith), record { count = (let c : suc (length xs) ≡ suc (length fs) = h.count in omega arith); each = λ k g l. h.each (suc k) g (omega arith) })

quotients_found : (xs : List ℤ) (d : ℤ) → pos 0 <ℤ d → Listed (λ fs. AreQuotients fs xs d)
quotients_found [] d p = inl ([], record { count = refl; each = λ k f l. absurd (omega arith) })
quotients_found (x ∷ xs) d p = go (quotient_found x d p) (quotients_found xs d p)
  where
    joined : (r : Frac) (rs : List Frac) → IsQuotient r x d → AreQuotients rs xs d → AreQuotients (r ∷ rs) (x ∷ xs) d
    joined r rs h k = record { count = ap suc k.count; each = each }
      where
        each : (i : ℕ) (f : Frac) → i < length (r ∷ rs) → IsQuotient (get_or (r ∷ rs) i f) (cell (x ∷ xs) i) d
        each zero f l = h
        each (suc i) f l = k.each i f (omega arith)

    go : Found (λ r. IsQuotient r x d) → Listed (λ fs. AreQuotients fs xs d) → Listed (λ fs. AreQuotients fs (x ∷ xs) d)
    go (inl r) (inl rs) = inl (r.0 ∷ rs.0, joined r.0 rs.0 r.1 rs.1)
    go (inr never) rs = inr (λ fs h. let t = first_quotient fs x xs d h in never t.0 t.2)
    go (inl r) (inr never) = inr (λ fs h. let t = first_quotient fs x xs d h in never t.1 t.3)

pub stood_by : (p : Point) → Listed (λ fs. StandsFor fs p)
stood_by p = go (quotients_found p.nums p.den p.positive)
  where
    go : Listed (λ fs. AreQuotients fs p.nums p.den) → Listed (λ fs. StandsFor fs p)
    go (inl t) = inl (t.0, stands_from t.0 p t.1.count t.1.each)
    go (inr never) = inr (λ fs h. never fs (record { count = h.count; each = stands_at fs p h }))
