-- The row points of the wider problem: the leader's conditions, and those of its disjunctions.
use Rattle.std.proofs.Common.{◌≡◌, ◌↔◌, ◌⊎◌, inl, inr, ℕ, suc, ◌+◌, ℤ, Bool, true, false, cond, List, [], ◌∷◌, ◌++◌, map, take, drop, length, Some, arith, refl, sym, ap, ap₂, subst, ◌∙◌, length-append}
use Rattle.emp_num.specs.Point.{Point}
use Rattle.emp_ast.specs.declared.tree.EquId.{EquId}
use Rattle.emp_ast.specs.declared.model.End.{End}
use Rattle.emp_ast.specs.declared.model.End.TheVariants.{Open, At}
use Rattle.emp_ast.specs.declared.model.Relation.{Relation}
use Rattle.emp_ast.specs.declared.model.Relation.TheVariants.{Equal, AtLeast, AtMost, Nothing}
use Rattle.emp_rows.specs.declared.affine.Affine.{Affine}
use Rattle.emp_rows.specs.declared.system.Kind.{Kind}
use Rattle.emp_rows.specs.declared.system.Kind.TheVariants as Kinds
use Rattle.emp_game.specs.Game.{Row, Ranges, range_at}
use Rattle.emp_game.specs.Game as TheGame
use Rattle.emp_game.specs.Conditions.{ends_meet}
use Rattle.emp_split.specs.Games.{Leader, Game}
use Rattle.emp_conditions.specs.Rows.{Condition, zero_row, nonneg_row, pair, low_row, high_row, leader_range, leader_ranges, leader_rule, leader_rules, leader_conditions}
use Rattle.emp_quantities.specs.System.{rows_of, kinds_of, pairs_of}
use Rattle.emp_quantities.proofs.Numbering.{AllVanish}
use Rattle.emp_problem.specs.declared.problem.Rule.{Rule}
use Rattle.emp_problem.specs.Problem.{lin_row, game_rule}
use Rattle.emp_poly.specs.declared.quad.Lin.{Lin}
use Rattle.emp_disj.specs.Extended.{AreSides, TermRules, AreTerms, PartRules, AreParts, term_rules, part_rules, term_size, terms_size, parts_size, term_pairs, part_pairs}
use Rattle.emp_disj.proofs.Conditions.{term_conditions, part_conditions}

-- ---- lists of conditions
pub rows_join : (cs ds : List Condition) → rows_of (cs ++ ds) ≡ rows_of cs ++ rows_of ds
rows_join [] ds = refl
rows_join (zero_row r ∷ cs) ds = ap (λ (rs : List Row). r ∷ rs) (rows_join cs ds)
rows_join (nonneg_row r ∷ cs) ds = ap (λ (rs : List Row). r ∷ rs) (rows_join cs ds)
rows_join (pair a b ∷ cs) ds = ap (λ (rs : List Row). b ∷ (a ∷ rs)) (rows_join cs ds)

kinds_join : (cs ds : List Condition) → kinds_of (cs ++ ds) ≡ kinds_of cs ++ kinds_of ds
kinds_join [] ds = refl
kinds_join (zero_row r ∷ cs) ds = ap (λ (ks : List Kind). Kinds.Zero ∷ ks) (kinds_join cs ds)
kinds_join (nonneg_row r ∷ cs) ds = ap (λ (ks : List Kind). Kinds.Nonneg ∷ ks) (kinds_join cs ds)
kinds_join (pair a b ∷ cs) ds = ap (λ (ks : List Kind). Kinds.Nonneg ∷ (Kinds.Nonneg ∷ ks)) (kinds_join cs ds)

pub pairs_join : (b : ℕ) (cs ds : List Condition) → pairs_of b (cs ++ ds) ≡ pairs_of b cs ++ pairs_of (b + length (rows_of cs)) ds
pairs_join b [] ds = ap (λ i. pairs_of i ds) (none b)
  where
    none : (b : ℕ) → b ≡ b + 0
    none b = omega arith
pairs_join b (zero_row r ∷ cs) ds = pairs_join (b + 1) cs ds ∙ ap (λ i. pairs_of (b + 1) cs ++ pairs_of i ds) (step b (length (rows_of cs)))
  where
    step : (b i : ℕ) → b + 1 + i ≡ b + suc i
    step b i = omega arith
pairs_join b (nonneg_row r ∷ cs) ds = pairs_join (b + 1) cs ds ∙ ap (λ i. pairs_of (b + 1) cs ++ pairs_of i ds) (step b (length (rows_of cs)))
  where
    step : (b i : ℕ) → b + 1 + i ≡ b + suc i
    step b i = omega arith
pairs_join b (pair x y ∷ cs) ds = ap (λ (ns : List (ℕ × ℕ)). (b + 2, b + 1) ∷ ns) (pairs_join (b + 2) cs ds ∙ ap (λ i. pairs_of (b + 2) cs ++ pairs_of i ds) (step b (length (rows_of cs))))
  where
    step : (b i : ℕ) → b + 2 + i ≡ b + suc (suc i)
    step b i = omega arith

rules_join : (rs ss : List TheGame.Rule) → leader_rules (rs ++ ss) ≡ leader_rules rs ++ leader_rules ss
rules_join [] ss = refl
rules_join (r ∷ rs) ss = ap (λ (cs : List Condition). leader_rule r.relation r.row ++ cs) (rules_join rs ss) ∙ sym (append_thrice (leader_rule r.relation r.row) (leader_rules rs) (leader_rules ss))
  where
    append_thrice : (xs ys zs : List Condition) → (xs ++ ys) ++ zs ≡ xs ++ (ys ++ zs)
    append_thrice [] ys zs = refl
    append_thrice (x ∷ xs) ys zs = ap (λ (cs : List Condition). x ∷ cs) (append_thrice xs ys zs)

map_join : (f : Rule → TheGame.Rule) (rs ss : List Rule) → map f (rs ++ ss) ≡ map f rs ++ map f ss
map_join f [] ss = refl
map_join f (r ∷ rs) ss = ap (λ (ts : List TheGame.Rule). f r ∷ ts) (map_join f rs ss)

-- ---- the leader's conditions have no pairs
pub record NoPairs (cs : List Condition) : Type 0 where
  pub none : (b : ℕ) → pairs_of b cs ≡ []

no_pairs_join : (cs ds : List Condition) → NoPairs cs → NoPairs ds → NoPairs (cs ++ ds)
no_pairs_join cs ds h k = record { none = λ b. pairs_join b cs ds ∙ ap₂ (λ (ms ns : List (ℕ × ℕ)). ms ++ ns) (h.none b) (k.none (b + length (rows_of cs))) }

range_has_none : (lo hi : End) (i : ℕ) → NoPairs (leader_range lo hi i)
range_has_none Open Open i = record { none = λ b. refl }
range_has_none (At x) Open i = record { none = λ b. refl }
range_has_none Open (At y) i = record { none = λ b. refl }
range_has_none (At x) (At y) i = go (ends_meet x y)
  where
    go : (c : Bool) → NoPairs (cond c (zero_row (low_row i x) ∷ []) (nonneg_row (low_row i x) ∷ nonneg_row (high_row i y) ∷ []))
    go true = record { none = λ b. refl }
    go false = record { none = λ b. refl }

pub ranges_have_none : (ranges : Ranges) (is : List ℕ) → NoPairs (leader_ranges ranges is)
ranges_have_none ranges [] = record { none = λ b. refl }
ranges_have_none ranges (i ∷ is) = no_pairs_join (leader_range (range_at ranges i).0 (range_at ranges i).1 i) (leader_ranges ranges is) (range_has_none (range_at ranges i).0 (range_at ranges i).1 i) (ranges_have_none ranges is)

rule_has_none : (rel : Relation) (r : Row) → NoPairs (leader_rule rel r)
rule_has_none Equal r = record { none = λ b. refl }
rule_has_none AtLeast r = record { none = λ b. refl }
rule_has_none AtMost r = record { none = λ b. refl }
rule_has_none Nothing r = record { none = λ b. refl }

pub rules_have_none : (rs : List TheGame.Rule) → NoPairs (leader_rules rs)
rules_have_none [] = record { none = λ b. refl }
rules_have_none (r ∷ rs) = no_pairs_join (leader_rule r.relation r.row) (leader_rules rs) (rule_has_none r.relation r.row) (rules_have_none rs)

leader_has_none : (g : Game) (l : Leader) → NoPairs (leader_conditions g (Some l))
leader_has_none g l = no_pairs_join (leader_ranges g.ranges l.own) (leader_rules l.rules) (ranges_have_none g.ranges l.own) (rules_have_none l.rules)

-- ---- the rows of disjunctions, as rules and as conditions with pairs
pub record SameRows (cs ds : List Condition) : Type 0 where
  pub rows : rows_of cs ≡ rows_of ds
  pub kinds : kinds_of cs ≡ kinds_of ds

pub same_behind : (bs cs ds : List Condition) → SameRows cs ds → SameRows (bs ++ cs) (bs ++ ds)
same_behind bs cs ds h = record {
  rows = rows_join bs cs ∙ (ap (λ (rs : List Row). rows_of bs ++ rs) h.rows ∙ sym (rows_join bs ds));
  kinds = kinds_join bs cs ∙ (ap (λ (ks : List Kind). kinds_of bs ++ ks) h.kinds ∙ sym (kinds_join bs ds));
}

module _ (k : ℤ) (all : List ℕ) (n : ℕ) where
  abbrev as_conditions : List Rule → List Condition
  as_conditions rs = leader_rules (map (game_rule k all) rs)

  pub conditions_join : (rs ss : List Rule) → leader_rules (map (game_rule k all) (rs ++ ss)) ≡ leader_rules (map (game_rule k all) rs) ++ leader_rules (map (game_rule k all) ss)
  conditions_join rs ss = ap leader_rules (map_join (game_rule k all) rs ss) ∙ rules_join (map (game_rule k all) rs) (map (game_rule k all) ss)

  -- a rule that asks for at least 0
  at_least : (r : Rule) (cs : List Condition) → r.relation ≡ AtLeast → leader_rule r.relation (lin_row k all r.row) ++ cs ≡ nonneg_row (lin_row k all r.row) ∷ cs
  at_least r cs h = ap (λ rel. leader_rule rel (lin_row k all r.row) ++ cs) h

  equal : (r : Rule) (cs : List Condition) → r.relation ≡ Equal → leader_rule r.relation (lin_row k all r.row) ++ cs ≡ zero_row (lin_row k all r.row) ∷ cs
  equal r cs h = ap (λ rel. leader_rule rel (lin_row k all r.row) ++ cs) h

  same_by : (cs bs ds : List Condition) → cs ≡ bs → SameRows bs ds → SameRows cs ds
  same_by cs bs ds e h = subst (λ (xs : List Condition). SameRows xs ds) (sym e) h

  paired : (w s : Row) (cs ds : List Condition) → SameRows cs ds → SameRows (nonneg_row s ∷ (nonneg_row w ∷ cs)) (pair w s ∷ ds)
  paired w s cs ds h = record { rows = ap (λ (rs : List Row). s ∷ (w ∷ rs)) h.rows; kinds = ap (λ (ks : List Kind). Kinds.Nonneg ∷ (Kinds.Nonneg ∷ ks)) h.kinds }

  levelled : (r : Row) (cs ds : List Condition) → SameRows cs ds → SameRows (zero_row r ∷ cs) (zero_row r ∷ ds)
  levelled r cs ds h = record { rows = ap (λ (rs : List Row). r ∷ rs) h.rows; kinds = ap (λ (ks : List Kind). Kinds.Zero ∷ ks) h.kinds }

  -- with what comes behind
  terms_same : (s w : ℕ) (rs : List Rule) (ts : List TermRules) (more : List Rule) (cs : List Condition) → AreTerms n s w rs ts → SameRows (leader_rules (map (game_rule k all) more)) cs → SameRows (leader_rules (map (game_rule k all) (term_rules ts ++ more))) (term_conditions k all ts ++ cs)
  terms_same s w [] [] more cs h same = same
  terms_same s w [] (t ∷ ts) more cs h same = absurd h
  terms_same s w (r ∷ rs) [] more cs h same = absurd h
  terms_same s w (r ∷ rs) (t ∷ ts) more cs h same =
      let rest = terms_same (suc s) (suc w) rs ts more cs h.1 same in
      let tail = term_rules ts ++ more in
      let behind = as_conditions tail in
      let sides = as_conditions t.sides in
      let slack = lin_row k all t.slack.row in
      let weight = lin_row k all t.weight.row in
      let spelled : as_conditions ((t.sides ++ (t.slack ∷ (t.weight ∷ term_rules ts))) ++ more) ≡ sides ++ (nonneg_row slack ∷ (nonneg_row weight ∷ behind)) =
      ap as_conditions (behind_sides t.sides (t.slack ∷ (t.weight ∷ term_rules ts)) more)
      ∙ (conditions_join t.sides (t.slack ∷ (t.weight ∷ tail))
      ∙ ap (λ (ds : List Condition). sides ++ ds) (at_least t.slack (leader_rule t.weight.relation weight ++ behind) h.0.slack.relation ∙ ap (λ (ds : List Condition). nonneg_row slack ∷ ds) (at_least t.weight behind h.0.weight.relation))) in
      same_by (as_conditions ((t.sides ++ (t.slack ∷ (t.weight ∷ term_rules ts))) ++ more)) (sides ++ (nonneg_row slack ∷ (nonneg_row weight ∷ behind))) ((sides ++ (pair weight slack ∷ term_conditions k all ts)) ++ cs) spelled
      (subst (λ (ds : List Condition). SameRows (sides ++ (nonneg_row slack ∷ (nonneg_row weight ∷ behind))) ds) (sym (conditions_behind sides (pair weight slack ∷ term_conditions k all ts) cs))
      (same_behind sides (nonneg_row slack ∷ (nonneg_row weight ∷ behind)) (pair weight slack ∷ (term_conditions k all ts ++ cs)) (paired weight slack behind (term_conditions k all ts ++ cs) rest)))
    where
      behind_sides : (xs ys zs : List Rule) → (xs ++ ys) ++ zs ≡ xs ++ (ys ++ zs)
      behind_sides [] ys zs = refl
      behind_sides (x ∷ xs) ys zs = ap (λ (rs : List Rule). x ∷ rs) (behind_sides xs ys zs)

      conditions_behind : (xs ys zs : List Condition) → (xs ++ ys) ++ zs ≡ xs ++ (ys ++ zs)
      conditions_behind [] ys zs = refl
      conditions_behind (x ∷ xs) ys zs = ap (λ (rs : List Condition). x ∷ rs) (conditions_behind xs ys zs)

  pub parts_same : (o : ℕ) (ds : List (List EquId)) (rs : List Rule) (ps : List PartRules) → AreParts n o ds rs ps → SameRows (leader_rules (map (game_rule k all) (part_rules ps))) (part_conditions k all ps)
  parts_same o [] rs [] h = record { rows = refl; kinds = refl }
  parts_same o [] rs (p ∷ ps) h = absurd h
  parts_same o (c ∷ ds) rs [] h = absurd h
  parts_same o (c ∷ ds) rs (p ∷ ps) h =
      let rest = parts_same (o + (length c + length c)) ds (drop (length c) rs) ps h.1 in
      let level = lin_row k all p.total.row in
      terms_same o (o + length c) (take (length c) rs) p.terms (p.total ∷ part_rules ps) (zero_row level ∷ part_conditions k all ps) h.0.terms
      (same_by (as_conditions (p.total ∷ part_rules ps)) (zero_row level ∷ as_conditions (part_rules ps)) (zero_row level ∷ part_conditions k all ps) (equal p.total (as_conditions (part_rules ps)) h.0.total.relation) (levelled level (as_conditions (part_rules ps)) (part_conditions k all ps) rest))

  -- ---- sizes
  one_row : (r : Rule) (rel : Relation) → r.relation ≡ rel → ((rel ≡ AtLeast) ⊎ (rel ≡ AtMost)) → length (rows_of (leader_rule r.relation (lin_row k all r.row))) ≡ 1
  one_row r rel e (inl h) = ap (λ x. length (rows_of (leader_rule x (lin_row k all r.row)))) (e ∙ h)
  one_row r rel e (inr h) = ap (λ x. length (rows_of (leader_rule x (lin_row k all r.row)))) (e ∙ h)

  more_rows : (r : Rule) (rs : List Rule) (c : ℕ) → length (rows_of (leader_rule r.relation (lin_row k all r.row))) ≡ 1 → length (rows_of (leader_rules (map (game_rule k all) rs))) ≡ c → length (rows_of (leader_rules (map (game_rule k all) (r ∷ rs)))) ≡ suc c
  more_rows r rs c one rest =
      ap length (rows_join (leader_rule r.relation (lin_row k all r.row)) (as_conditions rs))
      ∙ (length-append (rows_of (leader_rule r.relation (lin_row k all r.row))) (rows_of (as_conditions rs)) ∙ (ap₂ (λ (i j : ℕ). i + j) one rest ∙ next c))
    where
      next : (c : ℕ) → 1 + c ≡ suc c
      next c = omega arith

  sides_size : (s : ℕ) (l : Lin) (rel : Relation) (rs : List Rule) → AreSides n s l rel rs → length (rows_of (leader_rules (map (game_rule k all) rs))) ≡ length rs
  sides_size s l Equal [] h = absurd h
  sides_size s l Equal (r ∷ []) h = absurd h
  sides_size s l Equal (r ∷ (t ∷ [])) h = more_rows r (t ∷ []) 1 (one_row r AtLeast h.0.relation (inl refl)) (more_rows t [] 0 (one_row t AtMost h.1.relation (inr refl)) refl)
  sides_size s l Equal (r ∷ (t ∷ (x ∷ rs))) h = absurd h
  sides_size s l AtLeast [] h = absurd h
  sides_size s l AtLeast (r ∷ []) h = more_rows r [] 0 (one_row r AtLeast h.relation (inl refl)) refl
  sides_size s l AtLeast (r ∷ (t ∷ rs)) h = absurd h
  sides_size s l AtMost [] h = absurd h
  sides_size s l AtMost (r ∷ []) h = more_rows r [] 0 (one_row r AtMost h.relation (inr refl)) refl
  sides_size s l AtMost (r ∷ (t ∷ rs)) h = absurd h
  sides_size s l Nothing [] h = refl
  sides_size s l Nothing (r ∷ rs) h = absurd h

  -- ---- pairs, by their numbers
  module _ (qs : List Affine) (p : Point) where
    abbrev Gone : List (ℕ × ℕ) → Type 0
    Gone ns = AllVanish qs p ns

    turned : (ns : List (ℕ × ℕ)) (a b c d : ℕ) → a ≡ c → b ≡ d → AllVanish qs p ((a, b) ∷ ns) ↔ AllVanish qs p ((d, c) ∷ ns)
    turned ns a b c d e f = subst (λ x. Gone ((a, b) ∷ ns) ↔ Gone ((d, x) ∷ ns)) e (subst (λ x. Gone ((a, b) ∷ ns) ↔ Gone ((x, a) ∷ ns)) f (λ h. (other h.0, h.1), λ h. (other h.0, h.1)))
      where
        other : {A B : Type 0} → A ⊎ B → B ⊎ A
        other (inl x) = inr x
        other (inr x) = inl x

    vanish_join : (ms ns : List (ℕ × ℕ)) → AllVanish qs p (ms ++ ns) ↔ (AllVanish qs p ms × AllVanish qs p ns)
    vanish_join [] ns = (λ h. (tt, h), λ h. h.1)
    vanish_join (m ∷ ms) ns = let rest = vanish_join ms ns in (λ h. let t = rest.0 h.1 in ((h.0, t.0), t.1), λ h. (h.0.0, rest.1 (h.0.1, h.1)))

    terms_vanish : (b s w : ℕ) (rs : List Rule) (ts : List TermRules) (cs : List Condition) → AreTerms n s w rs ts →
        AllVanish qs p (pairs_of b (term_conditions k all ts ++ cs)) ↔ (AllVanish qs p (term_pairs b ts) × AllVanish qs p (pairs_of (b + terms_size ts) cs))
    terms_vanish b s w [] [] cs h = subst (λ i. Gone (pairs_of b cs) ↔ (Unit {0} × Gone (pairs_of i cs))) (none b) (λ q. (tt, q), λ q. q.1)
      where
        none : (b : ℕ) → b ≡ b + 0
        none b = omega arith
    terms_vanish b s w [] (t ∷ ts) cs h = absurd h
    terms_vanish b s w (r ∷ rs) [] cs h = absurd h
    terms_vanish b s w (r ∷ rs) (t ∷ ts) cs h =
        let sides = as_conditions t.sides in
        let c = length t.sides in
        let rest = terms_vanish (b + term_size t) (suc s) (suc w) rs ts cs h.1 in
        let weight = lin_row k all t.weight.row in
        let slack = lin_row k all t.slack.row in
        let tail = term_conditions k all ts ++ cs in
        let spelled : pairs_of b ((sides ++ (pair weight slack ∷ term_conditions k all ts)) ++ cs) ≡ (b + c + 2, b + c + 1) ∷ pairs_of (b + term_size t) tail =
        ap (pairs_of b) (conditions_behind sides (pair weight slack ∷ term_conditions k all ts) cs)
        ∙ (pairs_join b sides (pair weight slack ∷ tail)
        ∙ (ap (λ (ns : List (ℕ × ℕ)). ns ++ pairs_of (b + length (rows_of sides)) (pair weight slack ∷ tail)) ((rules_have_none (map (game_rule k all) t.sides)).none b)
        ∙ (ap (λ i. pairs_of (b + i) (pair weight slack ∷ tail)) (sides_size s r.row r.relation t.sides h.0.sides)
        ∙ ap (λ i. (b + c + 2, b + c + 1) ∷ pairs_of i tail) (size b c)))) in
        let one = turned [] (b + c + 2) (b + c + 1) (b + c + 2) (b + c + 1) refl refl in
        subst (λ (ns : List (ℕ × ℕ)). Gone ns ↔ (Gone (term_pairs b (t ∷ ts)) × Gone (pairs_of (b + terms_size (t ∷ ts)) cs))) (sym spelled)
        (subst (λ i. Gone ((b + c + 2, b + c + 1) ∷ pairs_of (b + term_size t) tail) ↔ (Gone (term_pairs b (t ∷ ts)) × Gone (pairs_of i cs))) (sum b (term_size t) (terms_size ts)) (
          λ q. let u = rest.0 q.1 in (((one.0 (q.0, tt)).0, u.0), u.1),
          λ q. ((one.1 (q.0.0, tt)).0, rest.1 (q.0.1, q.1)),
        ))
      where
        size : (b c : ℕ) → b + c + 2 ≡ b + (c + 2)
        size b c = omega arith

        sum : (b i j : ℕ) → b + i + j ≡ b + (i + j)
        sum b i j = omega arith

        conditions_behind : (xs ys zs : List Condition) → (xs ++ ys) ++ zs ≡ xs ++ (ys ++ zs)
        conditions_behind [] ys zs = refl
        conditions_behind (x ∷ xs) ys zs = ap (λ (rs : List Condition). x ∷ rs) (conditions_behind xs ys zs)

    pub parts_vanish : (b o : ℕ) (ds : List (List EquId)) (rs : List Rule) (ps : List PartRules) → AreParts n o ds rs ps → AllVanish qs p (pairs_of b (part_conditions k all ps)) ↔ AllVanish qs p (part_pairs b ps)
    parts_vanish b o [] rs [] h = (λ q. tt, λ q. tt)
    parts_vanish b o [] rs (x ∷ ps) h = absurd h
    parts_vanish b o (c ∷ ds) rs [] h = absurd h
    parts_vanish b o (c ∷ ds) rs (x ∷ ps) h =
        let level = lin_row k all x.total.row in
        let one = terms_vanish b o (o + length c) (take (length c) rs) x.terms (zero_row level ∷ part_conditions k all ps) h.0.terms in
        let rest = subst (λ i. Gone (pairs_of i (part_conditions k all ps)) ↔ Gone (part_pairs (b + suc (terms_size x.terms)) ps)) (step b (terms_size x.terms)) (parts_vanish (b + suc (terms_size x.terms)) (o + (length c + length c)) ds (drop (length c) rs) ps h.1) in
        let join = vanish_join (term_pairs b x.terms) (part_pairs (b + suc (terms_size x.terms)) ps) in
        (λ q. let u = one.0 q in join.1 (u.0, rest.0 u.1), λ q. let u = join.0 q in one.1 (u.0, rest.1 u.1))
      where
        step : (b i : ℕ) → b + suc i ≡ b + i + 1
        step b i = omega arith

  terms_rows : (s w : ℕ) (rs : List Rule) (ts : List TermRules) (cs : List Condition) → AreTerms n s w rs ts → length (rows_of (term_conditions k all ts ++ cs)) ≡ terms_size ts + length (rows_of cs)
  terms_rows s w [] [] cs h = none (length (rows_of cs))
    where
      none : (i : ℕ) → i ≡ 0 + i
      none i = omega arith
  terms_rows s w [] (t ∷ ts) cs h = absurd h
  terms_rows s w (r ∷ rs) [] cs h = absurd h
  terms_rows s w (r ∷ rs) (t ∷ ts) cs h =
      let sides = as_conditions t.sides in
      let behind = pair (lin_row k all t.weight.row) (lin_row k all t.slack.row) ∷ term_conditions k all ts in
      ap (λ (ds : List Condition). length (rows_of ds)) (conditions_behind sides behind cs)
      ∙ (ap length (rows_join sides (behind ++ cs))
      ∙ (length-append (rows_of sides) (rows_of (behind ++ cs))
      ∙ (ap₂ (λ (i j : ℕ). i + suc (suc j)) (sides_size s r.row r.relation t.sides h.0.sides) (terms_rows (suc s) (suc w) rs ts cs h.1) ∙ sum (length t.sides) (terms_size ts) (length (rows_of cs)))))
    where
      sum : (a b c : ℕ) → a + suc (suc (b + c)) ≡ a + 2 + b + c
      sum a b c = omega arith

      conditions_behind : (xs ys zs : List Condition) → (xs ++ ys) ++ zs ≡ xs ++ (ys ++ zs)
      conditions_behind [] ys zs = refl
      conditions_behind (x ∷ xs) ys zs = ap (λ (rs : List Condition). x ∷ rs) (conditions_behind xs ys zs)

  pub parts_rows : (o : ℕ) (ds : List (List EquId)) (rs : List Rule) (ps : List PartRules) → AreParts n o ds rs ps → length (rows_of (part_conditions k all ps)) ≡ parts_size ps
  parts_rows o [] rs [] h = refl
  parts_rows o [] rs (p ∷ ps) h = absurd h
  parts_rows o (c ∷ ds) rs [] h = absurd h
  parts_rows o (c ∷ ds) rs (p ∷ ps) h =
      terms_rows o (o + length c) (take (length c) rs) p.terms (zero_row (lin_row k all p.total.row) ∷ part_conditions k all ps) h.0.terms ∙ ap (λ i. terms_size p.terms + suc i) (parts_rows (o + (length c + length c)) ds (drop (length c) rs) ps h.1)
