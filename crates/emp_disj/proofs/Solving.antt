-- The row points of the wider problem are the points that meet the leader's conditions and those of the disjunctions.
use Rattle.std.proofs.Common.{◌≡◌, ◌↔◌, ℕ, suc, ◌+◌, ◌-◌, ℤ, List, [], ◌∷◌, ◌++◌, map, take, drop, length, Option, Some, arith, refl, sym, ap, ap₂, subst, ◌∙◌, length-append}
use Rattle.std.specs.Prelude.{slice_index_or}
use Rattle.std.proofs.lemmas.List.{take-append-drop, append-nil, length-map}
use Rattle.emp_num.specs.Point.{Point}
use Rattle.emp_ast.specs.declared.tree.EquId.{EquId}
use Rattle.emp_rows.specs.declared.affine.Affine.{Affine}
use Rattle.emp_rows.specs.declared.system.Kind.{Kind}
use Rattle.emp_rows.specs.declared.system.RowSystem.{RowSystem}
use Rattle.emp_rows.specs.RowPoints.{no_row, AreOfKind, Solves}
use Rattle.emp_game.specs.Game.{Row}
use Rattle.emp_game.specs.Game as TheGame
use Rattle.emp_split.specs.Games.{Leader, Game, coordinates}
use Rattle.emp_conditions.specs.Base.{Base, base_slots, base_from}
use Rattle.emp_conditions.specs.Rows.{Condition, HoldAt, leader_ranges, leader_rules, leader_conditions, player_conditions, conditions}
use Rattle.emp_quantities.specs.System.{rows_of, kinds_of, pairs_of}
use Rattle.emp_quantities.specs.Over.{raised, over, AreMultiplesOver, IsSystemOver}
use Rattle.emp_quantities.proofs.Numbering.{AllVanish, BeginsAt, numbered, by_place, from_places}
use Rattle.emp_problem.specs.declared.problem.Rule.{Rule}
use Rattle.emp_problem.specs.declared.problem.LeaderPart.{LeaderPart}
use Rattle.emp_problem.specs.declared.problem.AgentProblem.{AgentProblem}
use Rattle.emp_problem.specs.Left.{place_in}
use Rattle.emp_problem.specs.Problem.{left_of, game_rule, game_player, game_leader, game, IsOver}
use Rattle.emp_disj.specs.Extended.{PartRules, AreParts, part_rules, parts_size, part_pairs, IsDisjunctive}
use Rattle.emp_disj.proofs.Conditions.{part_conditions}
use Rattle.emp_disj.proofs.Rows.{rows_join, pairs_join, ranges_have_none, rules_have_none, SameRows, same_behind, conditions_join, parts_same, parts_vanish, parts_rows}

-- there is a multiple for each row
multiples_count : (k : ℤ) (g : Game) (qs : List Affine) (rs : List Row) → AreMultiplesOver k g qs rs → length qs ≡ length rs
multiples_count k g [] [] h = refl
multiples_count k g [] (r ∷ rs) h = absurd h
multiples_count k g (q ∷ qs) [] h = absurd h
multiples_count k g (q ∷ qs) (r ∷ rs) h = ap suc (multiples_count k g qs rs h.1)

module _ (k : ℤ) (all : List ℕ) (n : ℕ) (ds : List (List EquId)) (rs : List Rule) (parts : List PartRules) (wide : AgentProblem) (lead : LeaderPart) (old : List Rule) (s : RowSystem) (whole : IsOver k wide) (is_all : left_of wide ≡ all) (none : wide.blocks ≡ []) (led : wide.leader ≡ Some lead) (rules : lead.rules ≡ old ++ part_rules parts) (are : AreParts n 0 ds rs parts) (rows : IsDisjunctive wide parts s) where
  abbrev g : Game
  g = game k wide

  abbrev own : List ℕ
  own = map (λ v. place_in all v.at) lead.own

  abbrev firsts : List Condition
  firsts = leader_ranges g.ranges own

  abbrev olds : List Condition
  olds = leader_rules (map (game_rule k all) old)

  abbrev mores : List Condition
  mores = part_conditions k all parts

  -- the conditions of the wider problem's game, and those with pairs
  plain_are : conditions (game k wide) ≡ leader_ranges (game k wide).ranges (map (λ v. place_in all v.at) lead.own) ++ (leader_rules (map (game_rule k all) old) ++ leader_rules (map (game_rule k all) (part_rules parts)))
  plain_are =
      ap₂ (λ (o : Option Leader) (ps : List TheGame.Player). leader_conditions g o ++ player_conditions g 0 ps) (ap₂ (λ (zs : List ℕ) (o : Option LeaderPart). game_leader k zs o) is_all led) (ap (map (game_player k (left_of wide))) none)
      ∙ (append-nil (firsts ++ leader_rules (map (game_rule k all) lead.rules))
      ∙ ap (λ (cs : List Condition). firsts ++ cs) (ap (λ (ss : List Rule). leader_rules (map (game_rule k all) ss)) rules ∙ conditions_join k all n old (part_rules parts)))

  same : SameRows (leader_ranges (game k wide).ranges (map (λ v. place_in all v.at) lead.own) ++ (leader_rules (map (game_rule k all) old) ++ leader_rules (map (game_rule k all) (part_rules parts)))) (leader_ranges (game k wide).ranges (map (λ v. place_in all v.at) lead.own) ++ (leader_rules (map (game_rule k all) old) ++ part_conditions k all parts))
  same = same_behind firsts (olds ++ leader_rules (map (game_rule k all) (part_rules parts))) (olds ++ mores) (same_behind olds (leader_rules (map (game_rule k all) (part_rules parts))) mores (parts_same k all n 0 ds rs parts are))

  abbrev paired : List Condition
  paired = firsts ++ (olds ++ mores)

  system : IsSystemOver k (game k wide) rows.plain
  system = rows.made.over k whole

  multiples : AreMultiplesOver k (game k wide) s.quantities (rows_of (leader_ranges (game k wide).ranges (map (λ v. place_in all v.at) lead.own) ++ (leader_rules (map (game_rule k all) old) ++ part_conditions k all parts)))
  multiples =
      subst (λ (qs : List Affine). AreMultiplesOver k g qs (rows_of paired)) (sym rows.quantities)
      (subst (λ (ys : List Row). AreMultiplesOver k g rows.plain.quantities ys) (ap rows_of plain_are ∙ same.rows) system.quantities)

  kinds_are : s.kinds ≡ kinds_of (leader_ranges (game k wide).ranges (map (λ v. place_in all v.at) lead.own) ++ (leader_rules (map (game_rule k all) old) ++ part_conditions k all parts))
  kinds_are = rows.kinds ∙ (system.kinds ∙ (ap kinds_of plain_are ∙ same.kinds))

  -- how many stand before those of disjunctions
  abbrev before : ℕ
  before = length (rows_of firsts) + length (rows_of olds)

  count_before : length s.quantities - parts_size parts ≡ length (rows_of (leader_ranges (game k wide).ranges (map (λ v. place_in all v.at) lead.own))) + length (rows_of (leader_rules (map (game_rule k all) old)))
  count_before =
      let all_of : length s.quantities ≡ length (rows_of paired) = multiples_count k g s.quantities (rows_of paired) multiples in
      let split : length (rows_of paired) ≡ length (rows_of firsts) + length (rows_of (olds ++ mores)) = ap length (rows_join firsts (olds ++ mores)) ∙ length-append (rows_of firsts) (rows_of (olds ++ mores)) in
      let again : length (rows_of (olds ++ mores)) ≡ length (rows_of olds) + length (rows_of mores) = ap length (rows_join olds mores) ∙ length-append (rows_of olds) (rows_of mores) in
      let last : length (rows_of mores) ≡ parts_size parts = parts_rows k all n 0 ds rs parts are in
      omega (arith, all_of, split, again, last)

  pairs_are : pairs_of 0 (leader_ranges (game k wide).ranges (map (λ v. place_in all v.at) lead.own) ++ (leader_rules (map (game_rule k all) old) ++ part_conditions k all parts)) ≡ pairs_of (length s.quantities - parts_size parts) (part_conditions k all parts)
  pairs_are =
      pairs_join 0 firsts (olds ++ mores)
      ∙ (ap (λ (ns : List (ℕ × ℕ)). ns ++ pairs_of (0 + length (rows_of firsts)) (olds ++ mores)) ((ranges_have_none g.ranges own).none 0)
      ∙ (pairs_join (0 + length (rows_of firsts)) olds mores
      ∙ (ap (λ (ns : List (ℕ × ℕ)). ns ++ pairs_of (0 + length (rows_of firsts) + length (rows_of olds)) mores) ((rules_have_none (map (game_rule k all) old)).none (0 + length (rows_of firsts)))
      ∙ ap (λ i. pairs_of i mores) (start (length (rows_of firsts)) (length (rows_of olds)) ∙ sym count_before))))
    where
      start : (i j : ℕ) → 0 + i + j ≡ i + j
      start i j = omega arith

  -- ---- no base variable stands behind the coordinates
  no_slots : base_slots (game k wide) ≡ []
  no_slots = ap (λ (ps : List TheGame.Player). base_from g 0 ps) (ap (map (game_player k (left_of wide))) none)

  over_is : (xs : List ℤ) → over k (game k wide) xs ≡ xs
  over_is xs = ap (λ (bs : List Base). take (coordinates g) xs ++ raised k bs (drop (coordinates g) xs)) no_slots ∙ take-append-drop (coordinates g) xs

  pub count_is : coordinates (game k wide) ≡ length wide.variables
  count_is = length-map wide.variables _

  pub base_is : s.base ≡ length wide.variables
  base_is = rows.base ∙ (system.base ∙ (ap₂ (λ (i : ℕ) (bs : List Base). i + length bs) count_is no_slots ∙ none_more (length wide.variables)))
    where
      none_more : (i : ℕ) → i + 0 ≡ i
      none_more i = omega arith

  whole_by : (p : Point) → length p.nums ≡ length wide.variables → length p.nums ≡ coordinates (game k wide) + length (base_slots (game k wide))
  whole_by p h = h ∙ (sym base_is ∙ (rows.base ∙ system.base))

  begins : BeginsAt s.quantities 0 s.quantities
  begins i = ap (λ j. slice_index_or s.quantities j no_row) (start i)
    where
      start : (i : ℕ) → 0 + i ≡ i
      start i = omega arith

  -- ---- the law
  pub solves_hold : (p : Point) → Solves s p ↔ ((length p.nums ≡ length wide.variables) × HoldAt (leader_ranges (game k wide).ranges (map (λ v. place_in all v.at) lead.own) ++ (leader_rules (map (game_rule k all) old) ++ part_conditions k all parts)) p.den p.nums)
  solves_hold p = (down, up)
    where
      vanish : AllVanish s.quantities p (pairs_of (length s.quantities - parts_size parts) (part_conditions k all parts)) ↔ AllVanish s.quantities p (part_pairs (length s.quantities - parts_size parts) parts)
      vanish = parts_vanish k all n s.quantities p (length s.quantities - parts_size parts) 0 ds rs parts are

      down : Solves s p → (length p.nums ≡ length wide.variables) × HoldAt paired p.den p.nums
      down h =
          let fits : length p.nums ≡ length wide.variables = h.count ∙ base_is in
          let gone = subst (λ (ns : List (ℕ × ℕ)). AllVanish s.quantities p ns) (sym pairs_are) (vanish.1 (subst (λ (ns : List (ℕ × ℕ)). AllVanish s.quantities p ns) rows.pairs (from_places s.quantities p s.pairs h.pairs))) in
          let of_kind = subst (λ (ks : List Kind). AreOfKind s.quantities ks p) kinds_are h.kinds in
          (fits, subst (λ (xs : List ℤ). HoldAt paired p.den xs) (over_is p.nums) ((numbered k g s.quantities 0 s.quantities paired p (whole_by p fits) begins multiples).0 (of_kind, gone)))

      up : (length p.nums ≡ length wide.variables) × HoldAt paired p.den p.nums → Solves s p
      up h =
          let t = (numbered k g s.quantities 0 s.quantities paired p (whole_by p h.0) begins multiples).1 (subst (λ (xs : List ℤ). HoldAt paired p.den xs) (sym (over_is p.nums)) h.1) in
          record {
            count = h.0 ∙ sym base_is;
            kinds = subst (λ (ks : List Kind). AreOfKind s.quantities ks p) (sym kinds_are) t.0;
            pairs = by_place s.quantities p s.pairs (subst (λ (ns : List (ℕ × ℕ)). AllVanish s.quantities p ns) (sym rows.pairs) (vanish.0 (subst (λ (ns : List (ℕ × ℕ)). AllVanish s.quantities p ns) pairs_are t.1)));
          }
