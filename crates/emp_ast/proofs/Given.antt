-- The given value of an objective is one number: the variable is a summand of the equation once, so two values of it that
-- make the equation hold are equal.
use Rattle.std.proofs.Common.{◌≡◌, ◌⊎◌, inl, inr, ℕ, zero, suc, ◌+◌, ◌≤◌, ◌≢◌, ℤ, pos, ◌*ℤ◌, ◌<ℤ◌, Bool, true, false, cond, ◌&&◌, ◌||◌, not, nat_eq, List, [], ◌∷◌, Option, Some, None, arith, refl, sym, ap, subst, ◌∙◌}
use Rattle.std.specs.Prelude.{slice_get, option_map}
use Rattle.std.proofs.lemmas.Bool.{and_parts, eqb-true}
use Rattle.emp_algebra.proofs.Laws.{mul_pos}
use Rattle.emp_algebra.proofs.Ring.{var, lit, ◌⊗◌, by_ring}
use Rattle.emp_algebra.specs.Vector.{cell, scale}
use Rattle.emp_num.specs.Ratio.{Ratio, negated as opposite, SameRatio}
use Rattle.emp_num.specs.Point.{Point, coordinate}
use Rattle.emp_num.proofs.SamePoints.{cross_on}
use Rattle.emp_ast.specs.declared.tree.Operator.{Operator}
use Rattle.emp_ast.specs.declared.tree.Operator.TheVariants.{Plus, Minus, Times, Over}
use Rattle.emp_ast.specs.declared.model.Relation.{Relation}
use Rattle.emp_ast.specs.declared.model.Relation.TheVariants.{Equal, AtLeast, AtMost, Nothing}
use Rattle.emp_ast.specs.declared.model.Sense.{Sense}
use Rattle.emp_ast.specs.declared.model.Equation.{Equation}
use Rattle.emp_ast.specs.declared.model.Model.{Model}
use Rattle.emp_ast.specs.declared.annot.Annot.{Annot}
use Rattle.emp_ast.specs.Expression.{Expression, number, variable, negated, joined, power, expression_of}
use Rattle.emp_ast.specs.Occurrence.{leaves, equation_leaves, occurrences, is_additive, is_summand, is_summand_of}
use Rattle.emp_ast.specs.Value.{value, both, operation, tree_value}
use Rattle.emp_ast.specs.Meets.{IfBoth, AreRelated, MeetsEquation}
use Rattle.emp_ast.specs.Parties.{Party, objective, has_no_bound, is_dual, is_implicit_equation, ties, is_equality, can_define, has_alone, defines_by, defines}
use Rattle.emp_ast.specs.Rivals.{IsGivenFor, IsGivenTo}
use Rattle.emp_ast.specs.SameLaws.{SameFraction, SameValue, GivenIsOne}
use Rattle.emp_ast.proofs.Fractions.{fraction_itself, fraction_on, fraction_negated, plus_cancels, plus_cancels_first, negated_cancels, same_same}
use Rattle.emp_ast.proofs.SameValues.{same_leaves}

-- ---- a point with another number for one variable
pub placed : List ℤ → ℕ → ℤ → List ℤ
placed [] zero y = y ∷ []
placed [] (suc w) y = pos 0 ∷ placed [] w y
placed (x ∷ xs) zero y = y ∷ xs
placed (x ∷ xs) (suc w) y = x ∷ placed xs w y

placed_there : (xs : List ℤ) (w : ℕ) (y : ℤ) → cell (placed xs w y) w ≡ y
unfolding placed
placed_there [] zero y = refl
placed_there [] (suc w) y = placed_there [] w y
placed_there (x ∷ xs) zero y = refl
placed_there (x ∷ xs) (suc w) y = placed_there xs w y

placed_elsewhere : (xs : List ℤ) (w v : ℕ) (y : ℤ) → v ≢ w → cell (placed xs w y) v ≡ cell xs v
unfolding placed
placed_elsewhere [] zero zero y n = absurd (n refl)
placed_elsewhere [] zero (suc v) y n = refl
placed_elsewhere [] (suc w) zero y n = refl
placed_elsewhere [] (suc w) (suc v) y n = placed_elsewhere [] w v y (λ e. n (ap suc e))
placed_elsewhere (x ∷ xs) zero zero y n = absurd (n refl)
placed_elsewhere (x ∷ xs) zero (suc v) y n = refl
placed_elsewhere (x ∷ xs) (suc w) zero y n = refl
placed_elsewhere (x ∷ xs) (suc w) (suc v) y n = placed_elsewhere xs w v y (λ e. n (ap suc e))

scaled_cell : (k : ℤ) (xs : List ℤ) (v : ℕ) → cell (scale k xs) v ≡ k *ℤ cell xs v
scaled_cell k [] v = by_ring (k ∷ []) (lit (pos 0)) (var 0 ⊗ lit (pos 0)) refl
scaled_cell k (x ∷ xs) zero = refl
scaled_cell k (x ∷ xs) (suc v) = scaled_cell k xs v

-- p with the fraction g in the place of w's coordinate
pub put : Point → ℕ → (g : Ratio) → pos 0 <ℤ g.bottom → Point
put p w g h = record { den = p.den *ℤ g.bottom; nums = placed (scale g.bottom p.nums) w (g.top *ℤ p.den); positive = mul_pos p.den g.bottom p.positive h }

pub put_there : (p : Point) (w : ℕ) (g : Ratio) (h : pos 0 <ℤ g.bottom) → SameRatio (coordinate (put p w g h) w) g
unfolding put
put_there p w g h = ap (λ z. z *ℤ g.bottom) (placed_there (scale g.bottom p.nums) w (g.top *ℤ p.den)) ∙ by_ring (g.top ∷ p.den ∷ g.bottom ∷ []) (var 0 ⊗ var 1 ⊗ var 2) (var 0 ⊗ (var 1 ⊗ var 2)) refl

pub put_elsewhere : (p : Point) (w : ℕ) (g : Ratio) (h : pos 0 <ℤ g.bottom) (v : ℕ) → v ≢ w → SameRatio (coordinate (put p w g h) v) (coordinate p v)
unfolding put
put_elsewhere p w g h v n =
    ap (λ z. z *ℤ p.den) (placed_elsewhere (scale g.bottom p.nums) w v (g.top *ℤ p.den) n ∙ scaled_cell g.bottom p.nums v)
    ∙ by_ring (g.bottom ∷ cell p.nums v ∷ p.den ∷ []) (var 0 ⊗ var 1 ⊗ var 2) (var 1 ⊗ (var 2 ⊗ var 0)) refl

put_apart : (p : Point) (w : ℕ) (g h : Ratio) (i : pos 0 <ℤ g.bottom) (j : pos 0 <ℤ h.bottom) (v : ℕ) → v ≢ w → SameRatio (coordinate (put p w g i) v) (coordinate (put p w h j) v)
put_apart p w g h i j v n =
    let r = put p w g i in
    let s = put p w h j in
    cross_on (cell r.nums v) r.den (cell p.nums v) p.den (cell s.nums v) s.den p.positive (put_elsewhere p w g i v n) (sym (put_elsewhere p w h j v n))

-- ---- a summand is a leaf
or_cases : (a b : Bool) → (a || b) ≡ true → (a ≡ true) ⊎ (b ≡ true)
or_cases true b h = inl refl
or_cases false b h = inr h

joined_summand : (op : Operator) (b : Bool) → cond (is_additive op) b false ≡ true → (is_additive op ≡ true) × (b ≡ true)
joined_summand Plus b h = (refl, h)
joined_summand Minus b h = (refl, h)
joined_summand Times b h = cc
joined_summand Over b h = cc

pub summand_leaf : (w : ℕ) (e : Expression) → is_summand w e ≡ true → 1 ≤ leaves w e
summand_leaf w (number f) h = cc
summand_leaf w (variable v) h = subst (λ (b : Bool). 1 ≤ cond b 1 0) (sym h) (omega arith)
summand_leaf w (negated e) h = summand_leaf w e h
summand_leaf w (joined op e f) h = go (or_cases (is_summand w e) (is_summand w f) (joined_summand op (is_summand w e || is_summand w f) h).1) (summand_leaf w e) (summand_leaf w f)
  where
    go : (is_summand w e ≡ true) ⊎ (is_summand w f ≡ true) → (is_summand w e ≡ true → 1 ≤ leaves w e) → (is_summand w f ≡ true → 1 ≤ leaves w f) → 1 ≤ leaves w e + leaves w f
    go (inl s) one two = let l = one s in omega arith
    go (inr s) one two = let l = two s in omega arith
summand_leaf w (power e n) h = cc

-- ---- two points that agree but for w
abbrev Apart : ℕ → Point → Point → Type 0
Apart w p q = (v : ℕ) → v ≢ w → SameRatio (coordinate p v) (coordinate q v)

-- an expression without w has one value
without : (w : ℕ) (e : Expression) (p q : Point) → leaves w e ≤ 0 → Apart w p q → SameValue (value p e) (value q e)
without w e p q h apart = same_leaves e p q (λ v l. apart v (λ s. let none : leaves v e ≤ 0 = subst (λ n. leaves n e ≤ 0) (sym s) h in omega arith))

abbrev Fixes : ℕ → Point → Point → Expression → Type 0
Fixes w p q e = IfBoth SameFraction (value p e) (value q e) → SameRatio (coordinate p w) (coordinate q w)

no_second : {A : Type 0} (op : Operator) (x z : Ratio) → IfBoth SameFraction (operation op x z) None → A
no_second op x z m = absurd (go (operation op x z) m)
  where
    go : (o : Option Ratio) → IfBoth SameFraction o None → ⊥
    go (Some y) m = m
    go None m = m

of_negated : (x y : Option Ratio) → IfBoth SameFraction (option_map opposite x) (option_map opposite y) → IfBoth SameFraction x y
of_negated (Some x) (Some y) h = record { left = h.left; right = h.right; same = negated_cancels x y h.same }
of_negated (Some x) None h = h
of_negated None y h = h

first_of_plus : (op : Operator) (x y z w : Option Ratio) → is_additive op ≡ true → SameValue x x → SameValue y y → SameValue z w → IfBoth SameFraction (both (operation op) x z) (both (operation op) y w) → IfBoth SameFraction x y
first_of_plus op (Some x) (Some y) (Some z) (Some w) add h k l m = record { left = h.left; right = k.left; same = go op add m }
  where
    go : (op : Operator) → is_additive op ≡ true → IfBoth SameFraction (operation op x z) (operation op y w) → SameRatio x y
    go Plus add m = plus_cancels x y z w h.left k.left l m.same
    go Minus add m = plus_cancels x y (opposite z) (opposite w) h.left k.left (fraction_negated z w l) m.same
    go Times add m = cc
    go Over add m = cc
first_of_plus op (Some x) (Some y) (Some z) None add h k l m = absurd l
first_of_plus op (Some x) (Some y) None (Some w) add h k l m = absurd l
first_of_plus op (Some x) (Some y) None None add h k l m = absurd m
first_of_plus op (Some x) None (Some z) w add h k l m = no_second op x z m
first_of_plus op (Some x) None None w add h k l m = absurd m
first_of_plus op None y z w add h k l m = absurd m

second_of_plus : (op : Operator) (x y z w : Option Ratio) → is_additive op ≡ true → SameValue x y → SameValue z z → SameValue w w → IfBoth SameFraction (both (operation op) x z) (both (operation op) y w) → IfBoth SameFraction z w
second_of_plus op (Some x) (Some y) (Some z) (Some w) add l h k m = record { left = h.left; right = k.left; same = go op add m }
  where
    go : (op : Operator) → is_additive op ≡ true → IfBoth SameFraction (operation op x z) (operation op y w) → SameRatio z w
    go Plus add m = plus_cancels_first x y z w l h.left k.left m.same
    go Minus add m = negated_cancels z w (plus_cancels_first x y (opposite z) (opposite w) l h.left k.left m.same)
    go Times add m = cc
    go Over add m = cc
second_of_plus op (Some x) None z w add l h k m = absurd l
second_of_plus op None (Some y) z w add l h k m = absurd l
second_of_plus op None None z w add l h k m = absurd m
second_of_plus op (Some x) (Some y) (Some z) None add l h k m = no_second op x z m
second_of_plus op (Some x) (Some y) None w add l h k m = absurd m

-- ---- where w is a summand once, equal values fix its coordinate
itself : (p : Point) (e : Expression) → SameValue (value p e) (value p e)
itself p e = same_leaves e p p (λ v l. refl)

fixes : (w : ℕ) (e : Expression) (p q : Point) → Apart w p q → leaves w e ≤ 1 → is_summand w e ≡ true → Fixes w p q e
fixes w (number f) p q apart once is h = cc
fixes w (variable v) p q apart once is h = subst (λ k. SameRatio (coordinate p k) (coordinate q k)) (eqb-true v w is) h.same
fixes w (negated e) p q apart once is h = fixes w e p q apart once is (of_negated (value p e) (value q e) h)
fixes w (joined op e f) p q apart once is h =
    let parts = joined_summand op (is_summand w e || is_summand w f) is in
    go parts.0 (or_cases (is_summand w e) (is_summand w f) parts.1) (fixes w e p q apart) (fixes w f p q apart)
  where
    go : is_additive op ≡ true → (is_summand w e ≡ true) ⊎ (is_summand w f ≡ true) → (leaves w e ≤ 1 → is_summand w e ≡ true → Fixes w p q e) → (leaves w f ≤ 1 → is_summand w f ≡ true → Fixes w p q f) → SameRatio (coordinate p w) (coordinate q w)
    go add (inl s) one two =
        let l = summand_leaf w e s in
        one (omega arith) s (first_of_plus op (value p e) (value q e) (value p f) (value q f) add (itself p e) (itself q e) (without w f p q (omega arith) apart) h)
    go add (inr s) one two =
        let l = summand_leaf w f s in
        two (omega arith) s (second_of_plus op (value p e) (value q e) (value p f) (value q f) add (without w e p q (omega arith) apart) (itself p f) (itself q f) h)
fixes w (power e n) p q apart once is h = cc

-- of four values a is b, c is d, and b is d; so a is c
round : (a b c d : Option Ratio) → SameValue a a → SameValue c c → IfBoth SameRatio a b → IfBoth SameRatio c d → SameValue b d → IfBoth SameFraction a c
round (Some a) (Some b) (Some c) (Some d) h k l m n =
    fraction_on a b c (record { left = h.left; right = n.left; same = l })
    (fraction_on b d c n (record { left = n.right; right = k.left; same = sym m }))
round (Some a) (Some b) (Some c) None h k l m n = absurd m
round (Some a) (Some b) None d h k l m n = absurd m
round (Some a) None c d h k l m n = absurd l
round None b c d h k l m n = absurd l

turned : (a b : Option Ratio) → IfBoth SameRatio a b → IfBoth SameRatio b a
turned (Some a) (Some b) h = sym h
turned (Some a) None h = h
turned None b h = absurd h

equality : (r : Relation) (x y : Option Ratio) → is_equality r ≡ true → AreRelated r x y → IfBoth SameRatio x y
equality Equal x y is h = h
equality AtLeast x y is h = cc
equality AtMost x y is h = cc
equality Nothing x y is h = cc

sides : (w : ℕ) (left right : Expression) (p q : Point) → Apart w p q → leaves w left + leaves w right ≤ 1 → (is_summand w left ≡ true) ⊎ (is_summand w right ≡ true) → IfBoth SameRatio (value p left) (value p right) → IfBoth SameRatio (value q left) (value q right) → SameRatio (coordinate p w) (coordinate q w)
sides w left right p q apart once (inl s) here there =
    let l = summand_leaf w left s in
    fixes w left p q apart (omega arith) s (round (value p left) (value p right) (value q left) (value q right) (itself p left) (itself q left) here there (without w right p q (omega arith) apart))
sides w left right p q apart once (inr s) here there =
    let l = summand_leaf w right s in
    fixes w right p q apart (omega arith) s (round (value p right) (value p left) (value q right) (value q left) (itself p right) (itself q right) (turned (value p left) (value p right) here) (turned (value q left) (value q right) there) (without w left p q (omega arith) apart))

pub one_solution : (w : ℕ) (c : Equation) (p q : Point) → Apart w p q → equation_leaves w c ≤ 1 → is_equality c.relation ≡ true → is_summand_of w c ≡ true → MeetsEquation p c → MeetsEquation q c → SameRatio (coordinate p w) (coordinate q w)
one_solution w c p q apart once equal is h k =
    sides w (expression_of c.left.nodes) (expression_of c.right.nodes) p q apart once (or_cases (is_summand w (expression_of c.left.nodes)) (is_summand w (expression_of c.right.nodes)) is)
    (equality c.relation (tree_value p c.left) (tree_value p c.right) equal h)
    (equality c.relation (tree_value q c.left) (tree_value q c.right) equal k)

-- ---- an equation is among the model's, and so are its leaves
leaves_within : (w : ℕ) (qs : List Equation) (e : ℕ) (c : Equation) → slice_get qs e ≡ Some c → equation_leaves w c ≤ occurrences w qs
leaves_within w [] e c at = cc
leaves_within w (q ∷ qs) zero c at = let same : q ≡ c = cc in subst (λ d. equation_leaves w d ≤ equation_leaves w q + occurrences w qs) same (omega arith)
leaves_within w (q ∷ qs) (suc e) c at = let l = leaves_within w qs e c at in omega arith

ties_both : (w : ℕ) (o : Option Equation) (c : Equation) → o ≡ Some c → ties w o ≡ true → (is_equality c.relation ≡ true) × (is_summand_of w c ≡ true)
ties_both w (Some d) c at h = let parts = and_parts (is_equality d.relation) (is_summand_of w d) h in let same : d ≡ c = cc in subst (λ x. (is_equality x.relation ≡ true) × (is_summand_of w x ≡ true)) same parts
ties_both w None c at h = cc

-- some entry of the list passes the test, or none does
some_or_none : {A : Type 0} (test : ℕ → Bool) (xs : List A) → ((e : ℕ) × (x : A) × (slice_get xs e ≡ Some x) × (test e ≡ true)) ⊎ ((e : ℕ) (x : A) → slice_get xs e ≡ Some x → test e ≡ true → ⊥)
some_or_none test [] = inr (λ e x at h. cc)
some_or_none {A} test (y ∷ xs) = go (test 0) refl (some_or_none (λ e. test (suc e)) xs)
  where
    go : (b : Bool) → test 0 ≡ b → ((e : ℕ) × (x : A) × (slice_get xs e ≡ Some x) × (test (suc e) ≡ true)) ⊎ ((e : ℕ) (x : A) → slice_get xs e ≡ Some x → test (suc e) ≡ true → ⊥) → ((e : ℕ) × (x : A) × (slice_get (y ∷ xs) e ≡ Some x) × (test e ≡ true)) ⊎ ((e : ℕ) (x : A) → slice_get (y ∷ xs) e ≡ Some x → test e ≡ true → ⊥)
    go true is rest = inl (0, y, refl, is)
    go false is (inl found) = inl (suc found.0, found.1, found.2, found.3)
    go false is (inr none) = inr each
      where
        each : (e : ℕ) (x : A) → slice_get (y ∷ xs) e ≡ Some x → test e ≡ true → ⊥
        each zero x at h = cc
        each (suc e) x at h = none e x at h

can_parts : (m : Model) (a : Annot) (e w : ℕ) → can_define m a e w ≡ true → (occurrences w m.equations ≡ 1) × (ties w (slice_get m.equations e) ≡ true)
can_parts m a e w h =
    let b1 = has_no_bound (slice_get m.variables w) && not (is_dual a w) in
    let b2 = nat_eq (occurrences w m.equations) 1 in
    let b3 = ties w (slice_get m.equations e) in
    let first = and_parts (b1 && b2 && b3) (not (is_implicit_equation a e)) h in
    let second = and_parts (b1 && b2) b3 first.0 in
    (eqb-true (occurrences w m.equations) 1 (and_parts b1 b2 second.0).1, second.1)

-- ---- the law
given_to : (m : Model) (a : Annot) (k : Party) (w : Sense × ℕ) (p : Point) (g h : Ratio) → objective m a k ≡ Some w → IsGivenTo m a k w.1 p g → IsGivenTo m a k w.1 p h → SameRatio g h
given_to m a k w p g h is one two = go (some_or_none (λ e. defines m a k e) m.equations)
  where
    go : ((e : ℕ) × (c : Equation) × (slice_get m.equations e ≡ Some c) × (defines m a k e ≡ true)) ⊎ ((e : ℕ) (c : Equation) → slice_get m.equations e ≡ Some c → defines m a k e ≡ true → ⊥) → SameRatio g h
    go (inl found) =
        let e = found.0 in
        let c = found.1 in
        let by : (can_define m a e w.1 && has_alone m a k e) ≡ true = subst (λ o. defines_by m a k e o ≡ true) is found.3 in
        let can = can_parts m a e w.1 (and_parts (can_define m a e w.1) (has_alone m a k e) by).0 in
        let once : occurrences w.1 m.equations ≡ 1 = can.0 in
        let both_ways = ties_both w.1 (slice_get m.equations e) c found.2 can.1 in
        let r = put p w.1 g one.fraction in
        let s = put p w.1 h two.fraction in
        let meets_r = one.defined e c found.2 found.3 r (put_there p w.1 g one.fraction) (put_elsewhere p w.1 g one.fraction) in
        let meets_s = two.defined e c found.2 found.3 s (put_there p w.1 h two.fraction) (put_elsewhere p w.1 h two.fraction) in
        let apart = put_apart p w.1 g h one.fraction two.fraction in
        let l = leaves_within w.1 m.equations e c found.2 in
        let same = one_solution w.1 c r s apart (omega arith) both_ways.0 both_ways.1 meets_r meets_s in
        same_same (coordinate r w.1) g (coordinate s w.1) h
        (record { left = r.positive; right = one.fraction; same = put_there p w.1 g one.fraction })
        (record { left = s.positive; right = two.fraction; same = put_there p w.1 h two.fraction })
        same
    go (inr none) =
        let c = coordinate p w.1 in
        same_same g g c h (fraction_itself g one.fraction) (record { left = p.positive; right = two.fraction; same = sym (two.otherwise none) }) (one.otherwise none)

given_for : (m : Model) (a : Annot) (k : Party) (o : Option (Sense × ℕ)) (p : Point) (g h : Ratio) → objective m a k ≡ o → IsGivenFor m a k o p g → IsGivenFor m a k o p h → SameRatio g h
given_for m a k (Some w) p g h is one two = given_to m a k w p g h is one two
given_for m a k None p g h is one two = absurd one

pub given_is_one : GivenIsOne
given_is_one m a k p g h one two = given_for m a k (objective m a k) p g h refl one two
