-- The prices of a file are those of its game, over one denominator.
use Rattle.std.proofs.Common.{◌≡◌, ◌⊎◌, inl, inr, ℕ, zero, suc, ◌+◌, ◌<◌, ℤ, pos, negsuc, ◌*ℤ◌, ◌<ℤ◌, Bool, true, false, ◌&&◌, ◌||◌, not, cond, nat_eq, List, [], ◌∷◌, map, length, get_or, Option, Some, None, arith, refl, sym, ap, ap₂, subst, ◌∙◌}
use Rattle.std.specs.Prelude.{slice_get, is_some, nat_le, unwrap_or}
use Rattle.std.specs.List.{list_any, count_by}
use Rattle.std.proofs.lemmas.Int.{ints}
use Rattle.std.proofs.lemmas.Bool.{eqb-true, false≢true, cases_Bool}
use Rattle.std.proofs.lemmas.Option.{same_Some, slice_get_within}
use Rattle.std.proofs.lemmas.List.Folds.{list_any_none}
use Rattle.emp_algebra.proofs.Ring.{var, ◌⊗◌, by_ring}
use Rattle.emp_algebra.proofs.Laws.{mul_pos}
use Rattle.emp_algebra.proofs.Order.{cancel_right}
use Rattle.emp_algebra.specs.Vector.{cell, scale}
use Rattle.emp_num.specs.Ratio.{Ratio, ratio, SameRatio}
use Rattle.emp_num.specs.Point.{Point, coordinate}
use Rattle.emp_ast.specs.declared.tree.VarId.{VarId}
use Rattle.emp_ast.specs.declared.tree.EquId.{EquId}
use Rattle.emp_ast.specs.declared.model.Model.{Model}
use Rattle.emp_ast.specs.declared.annot.Block.{Block}
use Rattle.emp_ast.specs.declared.annot.Annot.{Annot}
use Rattle.emp_ast.specs.SameLaws.{SameFraction}
use Rattle.emp_ast.specs.declared.model.Sense.{Sense}
use Rattle.emp_ast.specs.Occurrence.{occurrences}
use Rattle.emp_ast.specs.Parties.{Party, leader, block, is_dual, has_dual, is_implicit_equation, has_no_bound, ties, names_equation, equations, objective, has_alone, can_define, defines, defines_by, is_defined_of, is_defined_by, some_block_defines, is_defined, is_constraint, constraints}
use Rattle.emp_ast.specs.Rivals.{Fits, IsDeviation}
use Rattle.emp_ast.specs.Multipliers as File
use Rattle.emp_ast.specs.Equilibrium.{is_priced}
use Rattle.emp_ast.specs.Equilibrium as Prices
use Rattle.emp_ast.proofs.Fractions.{fraction_on, fraction_back}
use Rattle.emp_game.specs.Game.{Rule, Player, names}
use Rattle.emp_game.specs.Solved as Play
use Rattle.emp_game.proofs.Slopes.{eqb_refl}
use Rattle.emp_split.specs.Games.{Game, EachPlayer, has_rule, dual_of}
use Rattle.emp_split.specs.Numbers.{first_with, holder}
use Rattle.emp_split.specs.Numbers as Split
use Rattle.emp_split.specs.Meaning.{ArePrices}
use Rattle.emp_split.proofs.Each.{or_first, or_second, each, each_both, some_has, each_has, Found, at_first}
use Rattle.emp_split.proofs.Places.{holder_first, holder_self}
use Rattle.emp_problem.specs.Left.{left, place}
use Rattle.emp_problem.specs.GameOf.{AreRulesOf, IsPlayerOf, IsGameOf}
use Rattle.emp_problem.specs.Class.{IsClassFile}
use Rattle.emp_meaning.specs.Laws.{left_nums}
use Rattle.emp_meaning.specs.Ties.{Places, Owners, Values}
use Rattle.emp_meaning.proofs.PriceLists.{all_here, there_is, Listed, EachListed, constraints_listed, constraint_named, named_listed}
use Rattle.emp_meaning.proofs.Move.{IsTied, placed_cell, named_passes}
use Rattle.emp_meaning.proofs.MoveGame.{each_player, its_player, tied_by}
use Rattle.emp_meaning.proofs.Multipliers.{multipliers_down, multipliers_up}
use Rattle.emp_meaning.proofs.TieLists.{one_if, count_cons, any_at, count_any}

-- ---- one denominator
-- times is a multiple of each f below n
pub record Common (n : ℕ) (f : ℕ → ℤ) : Type 0 where
  pub times : ℤ
  pub positive : pos 0 <ℤ times
  pub part : ℕ → ℤ
  pub is : (i : ℕ) → i < n → part i *ℤ f i ≡ times

pub common : (n : ℕ) (f : ℕ → ℤ) → ((i : ℕ) → pos 0 <ℤ f i) → Common n f
common zero f h = record { times = pos 1; positive = omega (arith, ints); part = λ i. pos 1; is = λ i l. absurd (omega arith) }
common (suc n) f h = more (common n f h)
  where
    more : Common n f → Common (suc n) f
    more c = record { times = c.times *ℤ f n; positive = mul_pos c.times (f n) c.positive (h n); part = part; is = is }
      where
        part : ℕ → ℤ
        part i = cond (nat_eq i n) c.times (c.part i *ℤ f n)

        is : (i : ℕ) → i < suc n → part i *ℤ f i ≡ c.times *ℤ f n
        is i l = go (cases_Bool (nat_eq i n))
          where
            go : (nat_eq i n ≡ true) ⊎ (nat_eq i n ≡ false) → part i *ℤ f i ≡ c.times *ℤ f n
            go (inl s) = ap (λ b. cond b c.times (c.part i *ℤ f n) *ℤ f i) s ∙ ap (λ j. c.times *ℤ f j) (eqb-true i n s)
            go (inr s) =
                let apart : i < n = not_last (λ e. false≢true (sym s ∙ (ap (λ j. nat_eq j n) e ∙ eqb_refl n))) in
                ap (λ b. cond b c.times (c.part i *ℤ f n) *ℤ f i) s ∙ (by_ring (c.part i ∷ f n ∷ f i ∷ []) (var 0 ⊗ var 1 ⊗ var 2) (var 0 ⊗ var 2 ⊗ var 1) refl ∙ ap (λ z. z *ℤ f n) (c.is i apart))
              where
                not_last : (i ≡ n → ⊥) → i < n
                not_last ne = grind (arith)

-- the number, where it is above 0
abbrev safe : ℤ → ℤ
safe (pos zero) = pos 1
safe (pos (suc n)) = pos (suc n)
safe (negsuc n) = pos 1

safe_positive : (z : ℤ) → pos 0 <ℤ safe z
safe_positive (pos zero) = omega (arith, ints)
safe_positive (pos (suc n)) = omega (arith, ints)
safe_positive (negsuc n) = omega (arith, ints)

safe_is : (z : ℤ) → pos 0 <ℤ z → safe z ≡ z
safe_is (pos zero) h = absurd (omega (arith, ints))
safe_is (pos (suc n)) h = refl
safe_is (negsuc n) h = absurd h.lt

-- numbers over one denominator for finitely many fractions by two indices
pub record Numbers (rows columns : ℕ) (u : ℕ → ℕ → Ratio) (d : ℤ) : Type 0 where
  pub times : ℤ
  pub positive : pos 0 <ℤ times
  pub number : ℕ → ℕ → ℤ
  pub same : (i j : ℕ) → i < rows → j < columns → pos 0 <ℤ (u i j).bottom → SameRatio (u i j) (ratio (number i j) (times *ℤ d))

pub numbers : (rows columns : ℕ) (u : ℕ → ℕ → Ratio) (d : ℤ) → Numbers rows columns u d
numbers rows columns u d = record {
  times = all.times;
  positive = all.positive;
  number = λ i j. (u i j).top *ℤ (all.part i *ℤ (each i).part j) *ℤ d;
  same = λ i j l k h.
      let parts : all.part i *ℤ (each i).part j *ℤ (u i j).bottom ≡ all.times =
      by_ring (all.part i ∷ (each i).part j ∷ (u i j).bottom ∷ []) (var 0 ⊗ var 1 ⊗ var 2) (var 0 ⊗ (var 1 ⊗ var 2)) refl
      ∙ (ap (λ z. all.part i *ℤ ((each i).part j *ℤ z)) (sym (safe_is (u i j).bottom h)) ∙ (ap (λ z. all.part i *ℤ z) ((each i).is j k) ∙ all.is i l)) in
      ap (λ z. (u i j).top *ℤ (z *ℤ d)) (sym parts) ∙ by_ring ((u i j).top ∷ (all.part i *ℤ (each i).part j) ∷ (u i j).bottom ∷ d ∷ []) (var 0 ⊗ (var 1 ⊗ var 2 ⊗ var 3)) (var 0 ⊗ var 1 ⊗ var 3 ⊗ var 2) refl;
}
  where
    each : (i : ℕ) → Common columns (λ j. safe (u i j).bottom)
    each i = common columns (λ j. safe (u i j).bottom) (λ j. safe_positive (u i j).bottom)

    all : Common rows (λ i. (each i).times)
    all = common rows (λ i. (each i).times) (λ i. (each i).positive)

-- ---- what the rules, the duals and the shared equations name
pub rules_name : (n : ℤ) (m : Model) (vs : List ℕ) (es : List EquId) (rs : List Rule) (e : ℕ) → AreRulesOf n m vs es rs → has_rule rs e ≡ names_equation es e
rules_name n m vs [] [] e h = refl
rules_name n m vs [] (r ∷ rs) e h = absurd h
rules_name n m vs (x ∷ es) [] e h = absurd h
rules_name n m vs (x ∷ es) (r ∷ rs) e h = ap₂ (λ i b. nat_eq i e || b) h.0.equation (rules_name n m vs es rs e h.1)

visols_name : (es : List EquId) (e : ℕ) → names (map (λ x. x.at) es) e ≡ names_equation es e
visols_name [] e = refl
visols_name (x ∷ es) e = ap (λ b. nat_eq x.at e || b) (visols_name es e)

abbrev pub dual_pairs : Model → Annot → List (VarId × EquId) → List (ℕ × ℕ)
dual_pairs m a ds = map (λ d. (place m a d.0.at, d.1.at)) ds

duals_name : (m : Model) (a : Annot) (ds : List (VarId × EquId)) (e : ℕ) → is_some (dual_of (dual_pairs m a ds) e) ≡ list_any (λ d. nat_eq d.1.at e) ds
duals_name m a [] e = refl
duals_name m a (d ∷ ds) e = go (cases_Bool (nat_eq d.1.at e)) (duals_name m a ds e)
  where
    go : (nat_eq d.1.at e ≡ true) ⊎ (nat_eq d.1.at e ≡ false) → is_some (dual_of (dual_pairs m a ds) e) ≡ list_any (λ x. nat_eq x.1.at e) ds → is_some (dual_of (dual_pairs m a (d ∷ ds)) e) ≡ list_any (λ x. nat_eq x.1.at e) (d ∷ ds)
    go (inl s) rest = ap (λ b. is_some (cond b (Some (place m a d.0.at)) (dual_of (dual_pairs m a ds) e))) s ∙ sym (ap (λ b. b || list_any (λ x. nat_eq x.1.at e) ds) s)
    go (inr s) rest = ap (λ b. is_some (cond b (Some (place m a d.0.at)) (dual_of (dual_pairs m a ds) e))) s ∙ (rest ∙ sym (ap (λ b. b || list_any (λ x. nat_eq x.1.at e) ds) s))

pub record DualFound (m : Model) (a : Annot) (ds : List (VarId × EquId)) (e k : ℕ) : Type 0 where
  pub index : ℕ
  pub pair : VarId × EquId
  pub at : slice_get ds index ≡ Some pair
  pub equation : pair.1.at ≡ e
  pub coordinate : k ≡ place m a pair.0.at

pub dual_found : (m : Model) (a : Annot) (ds : List (VarId × EquId)) (e k : ℕ) → dual_of (dual_pairs m a ds) e ≡ Some k → DualFound m a ds e k
dual_found m a [] e k h = absurd (false≢true (ap is_some h))
dual_found m a (d ∷ ds) e k h = go (cases_Bool (nat_eq d.1.at e)) (λ s. dual_found m a ds e k s)
  where
    go : (nat_eq d.1.at e ≡ true) ⊎ (nat_eq d.1.at e ≡ false) → (dual_of (dual_pairs m a ds) e ≡ Some k → DualFound m a ds e k) → DualFound m a (d ∷ ds) e k
    go (inl s) rest = record {
      index = 0;
      pair = d;
      at = refl;
      equation = eqb-true d.1.at e s;
      coordinate = sym (ap (λ o. unwrap_or o 0) (sym (ap (λ b. cond b (Some (place m a d.0.at)) (dual_of (dual_pairs m a ds) e)) s) ∙ h));
    }
    go (inr s) rest = later (rest (sym (ap (λ b. cond b (Some (place m a d.0.at)) (dual_of (dual_pairs m a ds) e)) s) ∙ h))
      where
        later : DualFound m a ds e k → DualFound m a (d ∷ ds) e k
        later f = record { index = suc f.index; pair = f.pair; at = f.at; equation = f.equation; coordinate = f.coordinate }

-- an equation with one dual variable has it by its first pair
pub dual_is : (m : Model) (a : Annot) (ds : List (VarId × EquId)) (e i : ℕ) (d : VarId × EquId) → count_by (λ x. nat_eq x.1.at e) ds < 2 → slice_get ds i ≡ Some d → nat_eq d.1.at e ≡ true → dual_of (dual_pairs m a ds) e ≡ Some (place m a d.0.at)
dual_is m a [] e i d c at t = absurd (let l = slice_get_within [] i d at in omega arith)
dual_is m a (x ∷ ds) e zero d c at t = ap (λ b. cond b (Some (place m a x.0.at)) (dual_of (dual_pairs m a ds) e)) (ap (λ y. nat_eq y.1.at e) (same_Some x d at) ∙ t) ∙ ap (λ y. Some (place m a y.0.at)) (same_Some x d at)
dual_is m a (x ∷ ds) e (suc i) d c at t = go (cases_Bool (nat_eq x.1.at e)) (λ k. dual_is m a ds e i d k at t)
  where
    go : (nat_eq x.1.at e ≡ true) ⊎ (nat_eq x.1.at e ≡ false) → (count_by (λ y. nat_eq y.1.at e) ds < 2 → dual_of (dual_pairs m a ds) e ≡ Some (place m a d.0.at)) → dual_of (dual_pairs m a (x ∷ ds)) e ≡ Some (place m a d.0.at)
    go (inl s) rest =
        let two : count_by (λ y. nat_eq y.1.at e) (x ∷ ds) ≡ 1 + count_by (λ y. nat_eq y.1.at e) ds = count_cons (λ y. nat_eq y.1.at e) x ds ∙ ap (λ b. one_if b + count_by (λ y. nat_eq y.1.at e) ds) s in
        let one = count_any (λ y. nat_eq y.1.at e) ds (any_at (λ y. nat_eq y.1.at e) ds i d at t) in
        absurd (omega arith)
    go (inr s) rest =
        let same : count_by (λ y. nat_eq y.1.at e) (x ∷ ds) ≡ 0 + count_by (λ y. nat_eq y.1.at e) ds = count_cons (λ y. nat_eq y.1.at e) x ds ∙ ap (λ b. one_if b + count_by (λ y. nat_eq y.1.at e) ds) s in
        ap (λ b. cond b (Some (place m a x.0.at)) (dual_of (dual_pairs m a ds) e)) s ∙ rest (omega arith)

-- ---- a dual variable is left
first_not : (b c d e f : Bool) → c ≡ false → b && c && d && e && f ≡ false
first_not true true d e f h = absurd (false≢true (sym h))
first_not true false d e f h = refl
first_not false c d e f h = refl

and_none : (b c : Bool) → b ≡ false → b && c ≡ false
and_none true c h = absurd (false≢true (sym h))
and_none false c h = refl

dual_undefined : (m : Model) (a : Annot) (k : Party) (v : ℕ) → is_dual a v ≡ true → is_defined_of m a k v ≡ false
dual_undefined m a k v h = go (objective m a k) refl
  where
    none : (w : Sense × ℕ) → objective m a k ≡ Some w → w.1 ≡ v → (e : ℕ) → defines m a k e ≡ false
    none w o s e =
        ap (defines_by m a k e) o
        ∙ and_none (can_define m a e w.1) (has_alone m a k e)
        (first_not (has_no_bound (slice_get m.variables w.1)) (not (is_dual a w.1)) (nat_eq (occurrences w.1 m.equations) 1) (ties w.1 (slice_get m.equations e)) (not (is_implicit_equation a e)) (ap (λ x. not (is_dual a x)) s ∙ ap not h))

    go : (o : Option (Sense × ℕ)) → objective m a k ≡ o → is_defined_by m a k v o ≡ false
    go None o = refl
    go (Some w) o = by_name (cases_Bool (nat_eq w.1 v))
      where
        by_name : (nat_eq w.1 v ≡ true) ⊎ (nat_eq w.1 v ≡ false) → nat_eq w.1 v && list_any (λ e. defines m a k e.at) (equations m a k) ≡ false
        by_name (inl s) =
            ap (λ b. b && list_any (λ e. defines m a k e.at) (equations m a k)) s ∙ list_any_none (λ e. defines m a k e.at) (equations m a k) (λ i e l. none w o (eqb-true w.1 v s) (get_or (equations m a k) i e).at)
        by_name (inr s) = and_none (nat_eq w.1 v) (list_any (λ e. defines m a k e.at) (equations m a k)) s

pub dual_left : (m : Model) (a : Annot) (v : ℕ) → is_dual a v ≡ true → is_defined m a v ≡ false
dual_left m a v h = ap₂ (λ b c. b || (a.bilevel && c)) (of_blocks (length a.blocks)) (dual_undefined m a leader v h) ∙ neither a.bilevel
  where
    of_blocks : (n : ℕ) → some_block_defines m a v n ≡ false
    of_blocks zero = refl
    of_blocks (suc n) = ap₂ (λ b c. b || c) (dual_undefined m a (block n) v h) (of_blocks n)

    neither : (b : Bool) → false || (b && false) ≡ false
    neither true = refl
    neither false = refl

-- ---- a game of a file
pub record AreTied (n : ℤ) (m : Model) (a : Annot) (g : Game) : Type 0 where
  pub class : IsClassFile m a
  pub game : IsGameOf n m a g
  pub places : Places m a
  pub values : Values n m a
  pub owners : (k : ℕ) (b : Block) (pl : Player) → slice_get a.blocks k ≡ Some b → IsPlayerOf n m a k b pl → Owners m a k pl

-- prices of the game
pub record Priced (m : Model) (a : Annot) (g : Game) (p : Point) : Type 0 where
  pub times : ℤ
  pub number : ℕ → ℕ → ℤ
  pub prices : ArePrices g p.den (left_nums m a p) times number

module _ (n : ℤ) (m : Model) (a : Annot) (g : Game) (t : AreTied n m a g) where
  tied : (k : ℕ) (b : Block) (pl : Player) → slice_get a.blocks k ≡ Some b → IsPlayerOf n m a k b pl → IsTied n m a g.ranges k b pl
  tied = tied_by n m a g t.class t.game t.places t.values t.owners

  listed : (k : ℕ) → k < length a.blocks → EachListed m a (block k) (constraints m a (block k))
  listed k l = constraints_listed m a t.class (block k) l

  constraint_at : (k e : ℕ) → k < length a.blocks → is_constraint m a (block k) e ≡ true → Listed m a (block k) e
  constraint_at k e l h = named_listed m a (block k) (constraints m a (block k)) e (listed k l) (constraint_named m a (block k) e h)

  -- a rule is that of a constraint
  rule_listed : (k : ℕ) (b : Block) (pl : Player) → slice_get a.blocks k ≡ Some b → IsPlayerOf n m a k b pl → (e : ℕ) → has_rule pl.rules e ≡ true → Listed m a (block k) e
  rule_listed k b pl at is e h = named_listed m a (block k) (constraints m a (block k)) e (listed k (slice_get_within a.blocks k b at)) (sym (rules_name n m (left m a) (constraints m a (block k)) pl.rules e is.rules) ∙ h)

  constraint_rule : (k : ℕ) (b : Block) (pl : Player) → IsPlayerOf n m a k b pl → (e : ℕ) → is_constraint m a (block k) e ≡ true → has_rule pl.rules e ≡ true
  constraint_rule k b pl is e h = rules_name n m (left m a) (constraints m a (block k)) pl.rules e is.rules ∙ constraint_named m a (block k) e h

  -- ---- priced
  abbrev price_test : ℕ → Bool
  price_test e = has_dual a e || names_equation a.visols e

  visol_same : (e : ℕ) → names g.visols e ≡ names_equation a.visols e
  visol_same e = ap (λ (vs : List ℕ). names vs e) t.game.visols ∙ visols_name a.visols e

  priced_rules : (es : List EquId) (rs : List Rule) → AreRulesOf n m (left m a) es rs → Split.is_priced g rs ≡ list_any (λ e. price_test e.at) es
  priced_rules [] [] h = refl
  priced_rules [] (r ∷ rs) h = absurd h
  priced_rules (e ∷ es) [] h = absurd h
  priced_rules (e ∷ es) (r ∷ rs) h =
      ap₂ (λ b c. b || c)
      (ap₂ (λ b c. b || c) (ap (λ (ds : List (ℕ × ℕ)). is_some (dual_of ds r.equation)) t.game.duals ∙ duals_name m a a.duals r.equation) (visol_same r.equation) ∙ ap price_test h.0.equation)
      (priced_rules es rs h.1)

  priced_same : (k : ℕ) (b : Block) (pl : Player) → IsPlayerOf n m a k b pl → Split.is_priced g pl.rules ≡ is_priced m a k
  priced_same k b pl is = priced_rules (constraints m a (block k)) pl.rules is.rules

  priced_by : (k e : ℕ) → is_constraint m a (block k) e ≡ true → price_test e ≡ true → is_priced m a k ≡ true
  priced_by k e h w = named_passes price_test (constraints m a (block k)) e (constraint_named m a (block k) e h) w

  -- ---- from the file to the game
  module _ (p : Point) (u : ℕ → ℕ → Ratio) (f : Fits m p) (h : Prices.ArePrices m a p u) where
    whole : Numbers (length a.blocks) (length m.equations) u p.den
    whole = numbers (length a.blocks) (length m.equations) u p.den

    fraction_at : (k e : ℕ) → k < length a.blocks → is_priced m a k ≡ true → is_constraint m a (block k) e ≡ true → pos 0 <ℤ (u k e).bottom
    fraction_at k e l w is = let c = constraint_at k e l is in ((h.multipliers k l w).each e c.equation c.at is).fraction

    matched : (k e : ℕ) → k < length a.blocks → is_priced m a k ≡ true → is_constraint m a (block k) e ≡ true → SameRatio (u k e) (ratio (whole.number k e) (whole.times *ℤ p.den))
    matched k e l w is = let c = constraint_at k e l is in whole.same k e l (slice_get_within m.equations e c.equation c.at) (fraction_at k e l w is)

    the_same : (k e : ℕ) → k < length a.blocks → is_priced m a k ≡ true → is_constraint m a (block k) e ≡ true → SameFraction (u k e) (ratio (whole.number k e) (whole.times *ℤ p.den))
    the_same k e l w is = record { left = fraction_at k e l w is; right = mul_pos whole.times p.den whole.positive p.positive; same = matched k e l w is }

    down_multipliers : (k : ℕ) (b : Block) (pl : Player) → slice_get a.blocks k ≡ Some b → IsPlayerOf n m a k b pl → Split.is_priced g pl.rules ≡ true → Play.AreMultipliers g.ranges pl (whole.times *ℤ p.den) (scale whole.times (left_nums m a p)) (map (λ r. whole.number k r.equation) pl.rules)
    down_multipliers k b pl at is w =
        let l = slice_get_within a.blocks k b at in
        let v = sym (priced_same k b pl is) ∙ w in
        multipliers_down n m a g.ranges k b pl (tied k b pl at is) (whole.number k) whole.times (u k) p whole.positive f (h.multipliers k l v) (λ e q there constraint. matched k e l v constraint)

    down_duals : (k : ℕ) (b : Block) (pl : Player) → slice_get a.blocks k ≡ Some b → IsPlayerOf n m a k b pl → (e c : ℕ) → has_rule pl.rules e ≡ true → dual_of g.duals e ≡ Some c → whole.number k e ≡ whole.times *ℤ cell (left_nums m a p) c
    down_duals k b pl at is e c r d = go (dual_found m a a.duals e c (ap (λ (ds : List (ℕ × ℕ)). dual_of ds e) (sym t.game.duals) ∙ d))
      where
        go : DualFound m a a.duals e c → whole.number k e ≡ whole.times *ℤ cell (left_nums m a p) c
        go x =
            let l = slice_get_within a.blocks k b at in
            let constraint = (rule_listed k b pl at is e r).is in
            let v = x.pair.0.at in
            let is_one : is_dual a v ≡ true = any_at (λ y. nat_eq y.0.at v) a.duals x.index x.pair x.at (eqb_refl v) in
            let has_one : has_dual a e ≡ true = any_at (λ y. nat_eq y.1.at e) a.duals x.index x.pair x.at (ap (λ i. nat_eq i e) x.equation ∙ eqb_refl e) in
            let w = priced_by k e constraint (or_first (has_dual a e) (names_equation a.visols e) has_one) in
            let below = (all_here (λ y. (y.0.at < length m.variables) × (y.1.at < length m.equations)) a.duals x.index x.pair x.at t.class.fits.duals).0 in
            let there : cell (left_nums m a p) c ≡ cell p.nums v = ap (cell (left_nums m a p)) x.coordinate ∙ placed_cell m a p v t.places below (dual_left m a v is_one) in
            let same : (u k e).top *ℤ p.den ≡ cell p.nums v *ℤ (u k e).bottom = subst (λ i. SameRatio (u k i) (coordinate p v)) x.equation (h.duals k x.index x.pair l x.at (ap (is_constraint m a (block k)) x.equation ∙ constraint)) in
            let number : (u k e).top *ℤ (whole.times *ℤ p.den) ≡ whole.number k e *ℤ (u k e).bottom = matched k e l w constraint in
            cancel_right (whole.number k e) (whole.times *ℤ cell (left_nums m a p) c) (u k e).bottom
            (sym number
            ∙ (by_ring ((u k e).top ∷ whole.times ∷ p.den ∷ []) (var 0 ⊗ (var 1 ⊗ var 2)) (var 1 ⊗ (var 0 ⊗ var 2)) refl
            ∙ (ap (λ z. whole.times *ℤ z) same
            ∙ (by_ring (whole.times ∷ cell p.nums v ∷ (u k e).bottom ∷ []) (var 0 ⊗ (var 1 ⊗ var 2)) (var 0 ⊗ var 1 ⊗ var 2) refl ∙ ap (λ z. whole.times *ℤ z *ℤ (u k e).bottom) (sym there)))))
            (fraction_at k e l w constraint)

    -- each rule is of a constraint of a block
    abbrev Constrains : ℕ → Player → Type 0
    Constrains k pl = (k < length a.blocks) × ((e : ℕ) → has_rule pl.rules e ≡ true → is_constraint m a (block k) e ≡ true)

    constrains : EachPlayer Constrains 0 g.players
    constrains = each_player n m a g Constrains t.game (λ k b pl at is. (slice_get_within a.blocks k b at, λ e r. (rule_listed k b pl at is e r).is))

    same_numbers : (j k e : ℕ) → j < length a.blocks → k < length a.blocks → names_equation a.visols e ≡ true → is_constraint m a (block j) e ≡ true → is_constraint m a (block k) e ≡ true → whole.number j e ≡ whole.number k e
    same_numbers j k e jl kl v ji ki =
        let w = or_second (has_dual a e) (names_equation a.visols e) v in
        let d = whole.times *ℤ p.den in
        let one = the_same j e jl (priced_by j e ji w) ji in
        let two = the_same k e kl (priced_by k e ki w) ki in
        let middle : SameFraction (u j e) (u k e) = record { left = one.left; right = two.left; same = h.shared j k e jl kl v ji ki } in
        let all = fraction_on (ratio (whole.number j e) d) (u j e) (ratio (whole.number k e) d) (fraction_back (u j e) (ratio (whole.number j e) d) one) (fraction_on (u j e) (u k e) (ratio (whole.number k e) d) middle two) in
        cancel_right (whole.number j e) (whole.number k e) d all.same one.right

    abbrev Shares : ℕ → Player → Type 0
    Shares k pl = (e : ℕ) → has_rule pl.rules e ≡ true → whole.number k e ≡ whole.number (holder g k e) e

    down_shared : (k : ℕ) (pl : Player) → Constrains k pl × ((e : ℕ) → has_rule pl.rules e ≡ true → some_has g.players e ≡ true) → Shares k pl
    down_shared k pl c e r = go (cases_Bool (names g.visols e))
      where
        first : names g.visols e ≡ true → Found Constrains (first_with 0 g.players e) e → whole.number k e ≡ whole.number (holder g k e) e
        first v x = same_numbers k (first_with 0 g.players e) e c.0.0 x.holds.0 (sym (visol_same e) ∙ v) (c.0.1 e r) (x.holds.1 e x.has) ∙ ap (λ i. whole.number i e) (sym (holder_first g k e v))

        go : (names g.visols e ≡ true) ⊎ (names g.visols e ≡ false) → whole.number k e ≡ whole.number (holder g k e) e
        go (inl v) = first v (at_first Constrains 0 g.players e constrains (c.1 e r))
        go (inr v) = ap (λ i. whole.number i e) (sym (holder_self g k e v))

    pub prices_down : Priced m a g p
    prices_down = record {
      times = whole.times;
      number = whole.number;
      prices = record {
        positive = whole.positive;
        multipliers = each_player n m a g (λ k pl. Split.is_priced g pl.rules ≡ true → Play.AreMultipliers g.ranges pl (whole.times *ℤ p.den) (scale whole.times (left_nums m a p)) (map (λ r. whole.number k r.equation) pl.rules)) t.game down_multipliers;
        duals = each_player n m a g (λ k pl. (e c : ℕ) → has_rule pl.rules e ≡ true → dual_of g.duals e ≡ Some c → whole.number k e ≡ whole.times *ℤ cell (left_nums m a p) c) t.game down_duals;
        shared = each (λ k pl. Constrains k pl × ((e : ℕ) → has_rule pl.rules e ≡ true → some_has g.players e ≡ true)) Shares down_shared 0 g.players (each_both Constrains (λ k pl. (e : ℕ) → has_rule pl.rules e ≡ true → some_has g.players e ≡ true) 0 g.players constrains (each_has 0 g.players));
      };
    }

  -- ---- from the game to the file
  -- an equation has one dual variable at most
  one_dual : (e : ℕ) → e < length m.equations → count_by (λ d. nat_eq d.1.at e) a.duals < 2
  one_dual e l = below_two (count_by (λ d. nat_eq d.1.at e) a.duals) (t.class.kept.0.0.0.1 e l)
    where
      below_two : (c : ℕ) → nat_le 2 c ≡ false → c < 2
      below_two c h = grind (arith)

  module _ (p : Point) (times : ℤ) (number : ℕ → ℕ → ℤ) (f : Fits m p) (h : ArePrices g p.den (left_nums m a p) times number) (d : (k : ℕ) → k < length a.blocks → IsDeviation m a (block k) p p) where
    abbrev price : ℕ → ℕ → Ratio
    price k e = ratio (number k e) (times *ℤ p.den)

    up_multipliers : (k : ℕ) → k < length a.blocks → is_priced m a k ≡ true → File.AreMultipliers m a k p (price k)
    up_multipliers k l w = go (there_is a.blocks k l)
      where
        go : (b : Block) × (slice_get a.blocks k ≡ Some b) → File.AreMultipliers m a k p (price k)
        go b =
            let x = its_player n m a g (λ j pl. Split.is_priced g pl.rules ≡ true → Play.AreMultipliers g.ranges pl (times *ℤ p.den) (scale times (left_nums m a p)) (map (λ r. number j r.equation) pl.rules)) k b.0 t.game h.multipliers b.1 in
            multipliers_up n m a g.ranges k b.0 x.player (tied k b.0 x.player b.1 x.of) (number k) times p h.positive f (d k l) (x.holds (priced_same k b.0 x.player x.of ∙ w))

    up_duals : (k i : ℕ) (c : VarId × EquId) → k < length a.blocks → slice_get a.duals i ≡ Some c → is_constraint m a (block k) c.1.at ≡ true → SameRatio (price k c.1.at) (coordinate p c.0.at)
    up_duals k i c l at is = go (there_is a.blocks k l)
      where
        go : (b : Block) × (slice_get a.blocks k ≡ Some b) → number k c.1.at *ℤ p.den ≡ cell p.nums c.0.at *ℤ (times *ℤ p.den)
        go b =
            let x = its_player n m a g (λ j pl. (e v : ℕ) → has_rule pl.rules e ≡ true → dual_of g.duals e ≡ Some v → number j e ≡ times *ℤ cell (left_nums m a p) v) k b.0 t.game h.duals b.1 in
            let below = all_here (λ y. (y.0.at < length m.variables) × (y.1.at < length m.equations)) a.duals i c at t.class.fits.duals in
            let is_one : is_dual a c.0.at ≡ true = any_at (λ y. nat_eq y.0.at c.0.at) a.duals i c at (eqb_refl c.0.at) in
            let found : dual_of g.duals c.1.at ≡ Some (place m a c.0.at) = ap (λ (ds : List (ℕ × ℕ)). dual_of ds c.1.at) t.game.duals ∙ dual_is m a a.duals c.1.at i c (one_dual c.1.at below.1) at (eqb_refl c.1.at) in
            let there : number k c.1.at ≡ times *ℤ cell p.nums c.0.at = x.holds c.1.at (place m a c.0.at) (constraint_rule k b.0 x.player x.of c.1.at is) found ∙ ap (λ z. times *ℤ z) (placed_cell m a p c.0.at t.places below.0 (dual_left m a c.0.at is_one)) in
            ap (λ z. z *ℤ p.den) there ∙ by_ring (times ∷ cell p.nums c.0.at ∷ p.den ∷ []) (var 0 ⊗ var 1 ⊗ var 2) (var 1 ⊗ (var 0 ⊗ var 2)) refl

    held : (k e : ℕ) → k < length a.blocks → names_equation a.visols e ≡ true → is_constraint m a (block k) e ≡ true → number k e ≡ number (first_with 0 g.players e) e
    held k e l v is = go (there_is a.blocks k l)
      where
        go : (b : Block) × (slice_get a.blocks k ≡ Some b) → number k e ≡ number (first_with 0 g.players e) e
        go b =
            let x = its_player n m a g (λ j pl. (i : ℕ) → has_rule pl.rules i ≡ true → number j i ≡ number (holder g j i) i) k b.0 t.game h.shared b.1 in
            x.holds e (constraint_rule k b.0 x.player x.of e is) ∙ ap (λ i. number i e) (holder_first g k e (visol_same e ∙ v))

    pub prices_up : Prices.ArePrices m a p (λ k e. ratio (number k e) (times *ℤ p.den))
    prices_up = record {
      multipliers = up_multipliers;
      duals = up_duals;
      shared = λ j k e jl kl v ji ki. ap (λ z. z *ℤ (times *ℤ p.den)) (held j e jl v ji ∙ sym (held k e kl v ki));
    }
