-- The conditions of disjunctions at a point: slacks that make up, and weights that choose.
use Rattle.std.proofs.Common.{◌≡◌, ◌↔◌, ◌⊎◌, ℕ, zero, suc, ◌+◌, ◌<◌, ◌≤◌, ℤ, pos, neg_ℤ, ◌+ℤ◌, ◌-ℤ◌, ◌*ℤ◌, ◌≤ℤ◌, ◌<ℤ◌, List, [], ◌∷◌, ◌++◌, All, map, take, drop, length, arith, refl, sym, ap, subst, ◌∙◌}
use Rattle.emp_algebra.specs.Vector.{cell, dot, scale}
use Rattle.emp_algebra.proofs.Ring.{var, lit, neg, ◌⊕◌, ◌⊖◌, ◌⊗◌, by_ring}
use Rattle.emp_algebra.proofs.Order.{linear, cancel_right}
use Rattle.emp_num.specs.Whole.{whole}
use Rattle.emp_num.specs.Opposite.{opposite as minus}
use Rattle.emp_ast.specs.declared.tree.EquId.{EquId}
use Rattle.emp_ast.specs.declared.model.Relation.{Relation}
use Rattle.emp_ast.specs.declared.model.Relation.TheVariants.{Equal, AtLeast, AtMost, Nothing}
use Rattle.emp_game.specs.Solved.{value_at}
use Rattle.emp_conditions.specs.Rows.{Condition, zero_row, pair, HoldAt, leader_rule, leader_rules}
use Rattle.emp_conditions.proofs.Values.{opposite_value}
use Rattle.emp_conditions.proofs.Ranges.{hold_split, hold_join}
use Rattle.emp_poly.specs.Quads.{linear_at}
use Rattle.emp_poly.specs.declared.quad.Lin.{Lin}
use Rattle.emp_problem.specs.declared.problem.Rule.{Rule}
use Rattle.emp_problem.specs.Problem.{times_over, lin_row, game_rule}
use Rattle.emp_disj.specs.Terms.{Gap, MakesUp, AreEased, total, Eases}
use Rattle.emp_disj.specs.Extended.{numbers_from, IsWider, nowhere, at_one, less_one, at_all, Widens, IsRule, IsLower, IsUpper, AreSides, TermRules, AreTerms, PartRules, AreParts}
use Rattle.emp_disj.proofs.Values.{over_none, over_less, none_spread, none_map, wide_value, one_place, less_place, all_places, cells_from}

-- ---- the conditions
abbrev pub term_conditions : ℤ → List ℕ → List TermRules → List Condition
term_conditions k all [] = []
term_conditions k all (t ∷ ts) = leader_rules (map (game_rule k all) t.sides) ++ (pair (lin_row k all t.weight.row) (lin_row k all t.slack.row) ∷ term_conditions k all ts)

abbrev pub part_conditions : ℤ → List ℕ → List PartRules → List Condition
part_conditions k all [] = []
part_conditions k all (p ∷ ps) = term_conditions k all p.terms ++ (zero_row (lin_row k all p.total.row) ∷ part_conditions k all ps)

-- ---- what they say
abbrev pub gaps : ℤ → List ℕ → ℤ → List ℤ → List Rule → List Gap
gaps k vs d xs rs = map (λ r. (r.relation, value_at (lin_row k vs r.row) d xs)) rs

-- slacks of a disjunction from place o on, then its weights, then the next one's
abbrev pub PartsEased : ℤ → List ℕ → ℤ → List ℤ → List ℤ → ℕ → List (List EquId) → List Rule → Type 0
PartsEased k vs d xs ys o [] rs = Unit {0}
PartsEased k vs d xs ys o (e ∷ ds) rs =
    Eases k d (gaps k vs d xs (take (length e) rs)) (cells_from ys o (length e)) (cells_from ys (o + length e) (length e)) × PartsEased k vs d xs ys (o + (length e + length e)) ds (drop (length e) rs)

pub cells_count : (ys : List ℤ) (w k : ℕ) → length (cells_from ys w k) ≡ k
cells_count ys w zero = refl
cells_count ys w (suc k) = ap suc (cells_count ys (suc w) k)

pub gaps_count : (k : ℤ) (vs : List ℕ) (d : ℤ) (xs : List ℤ) (rs : List Rule) → length (gaps k vs d xs rs) ≡ length rs
gaps_count k vs d xs [] = refl
gaps_count k vs d xs (r ∷ rs) = ap suc (gaps_count k vs d xs rs)

module _ (k : ℤ) (n : ℕ) (vs : List ℕ) (e : ℕ) (d : ℤ) (xs ys : List ℤ) (above : pos 0 <ℤ k) (below : All (λ v. v < n) vs) (count : length xs ≡ length vs) (short : length ys ≤ e) where
  abbrev all : List ℕ
  all = vs ++ numbers_from n e

  abbrev nums : List ℤ
  nums = xs ++ ys

  abbrev gap : Lin → ℤ
  gap l = value_at (lin_row k vs l) d xs

  -- ---- values
  abbrev wide : Lin → ℤ
  wide l = value_at (lin_row k all l) d nums

  pub old_value : (l w : Lin) → Widens n l nowhere w → value_at (lin_row k (vs ++ numbers_from n e) w) d (xs ++ ys) ≡ value_at (lin_row k vs l) d xs
  old_value l w h =
      wide_value k n l.constant (linear_at l.linear) nowhere w vs e d xs ys h below count
      ∙ (ap (λ z. gap l +ℤ z) (none_spread (λ i. times_over k (whole 0)) e ys (λ j. over_none k)) ∙ by_ring (gap l ∷ []) (var 0 ⊕ lit (pos 0)) (var 0) refl)

  lower_value : (s : ℕ) (l w : Lin) → Widens n l (at_one s) w → wide w ≡ gap l +ℤ k *ℤ cell ys s
  lower_value s l w h = wide_value k n l.constant (linear_at l.linear) (at_one s) w vs e d xs ys h below count ∙ ap (λ z. gap l +ℤ z) (one_place k s e ys short)

  upper_value : (s : ℕ) (l w : Lin) → Widens n l (less_one s) w → wide w ≡ gap l +ℤ neg_ℤ (k *ℤ cell ys s)
  upper_value s l w h = wide_value k n l.constant (linear_at l.linear) (less_one s) w vs e d xs ys h below count ∙ ap (λ z. gap l +ℤ z) (less_place k s e ys short)

  old_none : dot (map (λ v. times_over k (whole 0)) vs) xs ≡ pos 0
  old_none = none_map (λ v. times_over k (whole 0)) vs xs (λ v. over_none k)

  unit_value : (s : ℕ) (w : Lin) → IsWider n (whole 0) nowhere (at_one s) w → wide w ≡ k *ℤ cell ys s
  unit_value s w h =
      wide_value k n (whole 0) nowhere (at_one s) w vs e d xs ys h below count
      ∙ (ap (λ z. times_over k (whole 0) *ℤ d +ℤ dot (map (λ v. times_over k (whole 0)) vs) xs +ℤ z) (one_place k s e ys short)
      ∙ (ap (λ z. times_over k (whole 0) *ℤ d +ℤ z +ℤ k *ℤ cell ys s) old_none
      ∙ (ap (λ z. z *ℤ d +ℤ pos 0 +ℤ k *ℤ cell ys s) (over_none k)
      ∙ by_ring (d ∷ k ∷ cell ys s ∷ []) (lit (pos 0) ⊗ var 0 ⊕ lit (pos 0) ⊕ var 1 ⊗ var 2) (var 1 ⊗ var 2) refl)))

  total_value : (w c : ℕ) (l : Lin) → IsWider n (minus (whole 1)) nowhere (at_all w c) l → wide l ≡ (total (cells_from ys w c) -ℤ d) *ℤ k
  total_value w c l h =
      wide_value k n (minus (whole 1)) nowhere (at_all w c) l vs e d xs ys h below count
      ∙ (ap (λ z. times_over k (minus (whole 1)) *ℤ d +ℤ dot (map (λ v. times_over k (whole 0)) vs) xs +ℤ z) (all_places k w c e ys short)
      ∙ (ap (λ z. times_over k (minus (whole 1)) *ℤ d +ℤ z +ℤ k *ℤ total (cells_from ys w c)) old_none
      ∙ (ap (λ z. z *ℤ d +ℤ pos 0 +ℤ k *ℤ total (cells_from ys w c)) (over_less k)
      ∙ by_ring (d ∷ k ∷ total (cells_from ys w c) ∷ []) (neg (var 1) ⊗ var 0 ⊕ lit (pos 0) ⊕ var 1 ⊗ var 2) ((var 2 ⊖ var 0) ⊗ var 1) refl)))

  -- ---- sides
  lower_holds : (s : ℕ) (l : Lin) (r : Rule) → IsLower n s l r → HoldAt (leader_rule r.relation (lin_row k (vs ++ numbers_from n e) r.row)) d (xs ++ ys) ↔ (pos 0 ≤ℤ (value_at (lin_row k vs l) d xs +ℤ k *ℤ cell ys s))
  lower_holds s l r h =
      let v = lower_value s l r.row h.row in
      subst (λ rel. HoldAt (leader_rule rel (lin_row k all r.row)) d nums ↔ (pos 0 ≤ℤ (gap l +ℤ k *ℤ cell ys s))) (sym h.relation) (λ q. subst (λ z. pos 0 ≤ℤ z) v q.0, λ q. (subst (λ z. pos 0 ≤ℤ z) (sym v) q, tt))

  upper_holds : (s : ℕ) (l : Lin) (r : Rule) → IsUpper n s l r → HoldAt (leader_rule r.relation (lin_row k (vs ++ numbers_from n e) r.row)) d (xs ++ ys) ↔ (pos 0 ≤ℤ (k *ℤ cell ys s -ℤ value_at (lin_row k vs l) d xs))
  upper_holds s l r h =
      let v = opposite_value (lin_row k all r.row) d nums ∙ (ap neg_ℤ (upper_value s l r.row h.row) ∙ by_ring (gap l ∷ (k *ℤ cell ys s) ∷ []) (neg (var 0 ⊕ neg (var 1))) (var 1 ⊖ var 0) refl) in
      subst (λ rel. HoldAt (leader_rule rel (lin_row k all r.row)) d nums ↔ (pos 0 ≤ℤ (k *ℤ cell ys s -ℤ gap l))) (sym h.relation) (λ q. subst (λ z. pos 0 ≤ℤ z) v q.0, λ q. (subst (λ z. pos 0 ≤ℤ z) (sym v) q, tt))

  abbrev sides_of : List Rule → List Condition
  sides_of rs = leader_rules (map (game_rule k all) rs)

  -- one rule in front of others
  front : (r : Rule) (rs : List Rule) → HoldAt (leader_rules (map (game_rule k (vs ++ numbers_from n e)) (r ∷ rs))) d (xs ++ ys) ↔ (HoldAt (leader_rule r.relation (lin_row k (vs ++ numbers_from n e) r.row)) d (xs ++ ys) × HoldAt (leader_rules (map (game_rule k (vs ++ numbers_from n e)) rs)) d (xs ++ ys))
  front r rs = (hold_split (leader_rule r.relation (lin_row k all r.row)) (sides_of rs) d nums, λ h. hold_join (leader_rule r.relation (lin_row k all r.row)) (sides_of rs) d nums h.0 h.1)

  sides_hold : (s : ℕ) (l : Lin) (rel : Relation) (rs : List Rule) → AreSides n s l rel rs → HoldAt (leader_rules (map (game_rule k (vs ++ numbers_from n e)) rs)) d (xs ++ ys) ↔ MakesUp rel (value_at (lin_row k vs l) d xs) (k *ℤ cell ys s)
  sides_hold s l Equal [] h = absurd h
  sides_hold s l Equal (r ∷ []) h = absurd h
  sides_hold s l Equal (r ∷ (t ∷ [])) h =
      let one = lower_holds s l r h.0 in
      let two = upper_holds s l t h.1 in
      let first = front r (t ∷ []) in
      let second = front t [] in
      (λ q. (one.0 (first.0 q).0, two.0 (second.0 (first.0 q).1).0), λ q. first.1 (one.1 q.0, second.1 (two.1 q.1, tt)))
  sides_hold s l Equal (r ∷ (t ∷ (x ∷ rs))) h = absurd h
  sides_hold s l AtLeast [] h = absurd h
  sides_hold s l AtLeast (r ∷ []) h = let one = lower_holds s l r h in let first = front r [] in (λ q. one.0 (first.0 q).0, λ q. first.1 (one.1 q, tt))
  sides_hold s l AtLeast (r ∷ (t ∷ rs)) h = absurd h
  sides_hold s l AtMost [] h = absurd h
  sides_hold s l AtMost (r ∷ []) h = let one = upper_holds s l r h in let first = front r [] in (λ q. one.0 (first.0 q).0, λ q. first.1 (one.1 q, tt))
  sides_hold s l AtMost (r ∷ (t ∷ rs)) h = absurd h
  sides_hold s l Nothing [] h = (λ q. tt, λ q. tt)
  sides_hold s l Nothing (r ∷ rs) h = absurd h

  -- ---- terms
  both_hold : (s w : ℕ) (t : TermRules) → IsRule AtLeast (IsWider n (whole 0) nowhere (at_one s)) t.slack → IsRule AtLeast (IsWider n (whole 0) nowhere (at_one w)) t.weight →
      ((pos 0 ≤ℤ value_at (lin_row k (vs ++ numbers_from n e) t.weight.row) d (xs ++ ys)) × (pos 0 ≤ℤ value_at (lin_row k (vs ++ numbers_from n e) t.slack.row) d (xs ++ ys)) × ((value_at (lin_row k (vs ++ numbers_from n e) t.weight.row) d (xs ++ ys) ≡ pos 0) ⊎ (value_at (lin_row k (vs ++ numbers_from n e) t.slack.row) d (xs ++ ys) ≡ pos 0)))
      ↔ ((pos 0 ≤ℤ (k *ℤ cell ys w)) × (pos 0 ≤ℤ (k *ℤ cell ys s)) × ((k *ℤ cell ys w ≡ pos 0) ⊎ (k *ℤ cell ys s ≡ pos 0)))
  both_hold s w t hs hw =
      let vw = unit_value w t.weight.row hw.row in
      let vs = unit_value s t.slack.row hs.row in (
        λ h. subst (λ b. (pos 0 ≤ℤ (k *ℤ cell ys w)) × (pos 0 ≤ℤ b) × ((k *ℤ cell ys w ≡ pos 0) ⊎ (b ≡ pos 0))) vs (subst (λ a. (pos 0 ≤ℤ a) × (pos 0 ≤ℤ wide t.slack.row) × ((a ≡ pos 0) ⊎ (wide t.slack.row ≡ pos 0))) vw h),
        λ h. subst (λ a. (pos 0 ≤ℤ a) × (pos 0 ≤ℤ wide t.slack.row) × ((a ≡ pos 0) ⊎ (wide t.slack.row ≡ pos 0))) (sym vw) (subst (λ b. (pos 0 ≤ℤ (k *ℤ cell ys w)) × (pos 0 ≤ℤ b) × ((k *ℤ cell ys w ≡ pos 0) ⊎ (b ≡ pos 0))) (sym vs) h),
      )

  terms_hold : (s w : ℕ) (rs : List Rule) (ts : List TermRules) → AreTerms n s w rs ts →
      HoldAt (term_conditions k (vs ++ numbers_from n e) ts) d (xs ++ ys) ↔ AreEased (gaps k vs d xs rs) (scale k (cells_from ys s (length rs))) (scale k (cells_from ys w (length rs)))
  terms_hold s w [] [] h = (λ q. tt, λ q. tt)
  terms_hold s w [] (t ∷ ts) h = absurd h
  terms_hold s w (r ∷ rs) [] h = absurd h
  terms_hold s w (r ∷ rs) (t ∷ ts) h =
      let one = sides_hold s r.row r.relation t.sides h.0.sides in
      let two = both_hold s w t h.0.slack h.0.weight in
      let rest = terms_hold (suc s) (suc w) rs ts h.1 in
      let there = pair (lin_row k all t.weight.row) (lin_row k all t.slack.row) ∷ term_conditions k all ts in (
        λ q. let c = hold_split (sides_of t.sides) there d nums q in let b = two.0 c.1.0 in ((one.0 c.0, b.0, b.1, b.2), rest.0 c.1.1),
        λ q. hold_join (sides_of t.sides) there d nums (one.1 q.0.0) (two.1 (q.0.1, q.0.2, q.0.3), rest.1 q.1),
      )

  -- ---- the total of the weights
  total_holds : (w c : ℕ) (l : Lin) → IsWider n (minus (whole 1)) nowhere (at_all w c) l → (value_at (lin_row k (vs ++ numbers_from n e) l) d (xs ++ ys) ≡ pos 0) ↔ (total (cells_from ys w c) ≡ d)
  total_holds w c l h =
      let t = total (cells_from ys w c) in
      let v = total_value w c l h in (
        λ q. let z = cancel_right (t -ℤ d) (pos 0) k (sym v ∙ (q ∙ by_ring (k ∷ []) (lit (pos 0)) (lit (pos 0) ⊗ var 0) refl)) above in omega (arith, linear, z),
        λ q. v ∙ (ap (λ z. (z -ℤ d) *ℤ k) q ∙ by_ring (d ∷ k ∷ []) ((var 0 ⊖ var 0) ⊗ var 1) (lit (pos 0)) refl),
      )

  -- ---- disjunctions
  pub parts_hold : (o : ℕ) (ds : List (List EquId)) (rs : List Rule) (ps : List PartRules) → AreParts n o ds rs ps → HoldAt (part_conditions k (vs ++ numbers_from n e) ps) d (xs ++ ys) ↔ PartsEased k vs d xs ys o ds rs
  parts_hold o [] rs [] h = (λ q. tt, λ q. tt)
  parts_hold o [] rs (p ∷ ps) h = absurd h
  parts_hold o (c ∷ ds) rs [] h = absurd h
  parts_hold o (c ∷ ds) rs (p ∷ ps) h =
      let size = length c in
      let mine = take size rs in
      let one : HoldAt (term_conditions k all p.terms) d nums ↔ AreEased (gaps k vs d xs mine) (scale k (cells_from ys o size)) (scale k (cells_from ys (o + size) size)) = subst (λ i. HoldAt (term_conditions k all p.terms) d nums ↔ AreEased (gaps k vs d xs mine) (scale k (cells_from ys o i)) (scale k (cells_from ys (o + size) i))) h.0.count (terms_hold o (o + size) mine p.terms h.0.terms) in
      let two = total_holds (o + size) size p.total.row h.0.total.row in
      let rest = parts_hold (o + (size + size)) ds (drop size rs) ps h.1 in
      let there = zero_row (lin_row k all p.total.row) ∷ part_conditions k all ps in (
        λ q. let a = hold_split (term_conditions k all p.terms) there d nums q in (
          record {
            slacks = cells_count ys o size ∙ sym (gaps_count k vs d xs mine ∙ h.0.count);
            weights = cells_count ys (o + size) size ∙ sym (gaps_count k vs d xs mine ∙ h.0.count);
            eased = one.0 a.0;
            whole = two.0 a.1.0;
          },
          rest.0 a.1.1,
        ),
        λ q. hold_join (term_conditions k all p.terms) there d nums (one.1 q.0.eased) (two.1 q.0.whole, rest.1 q.1),
      )
