-- The worked searches: what is so of a system with some fields is so whatever the proof that it is one.
use Rattle.std.proofs.Common.{◌≡◌, ℕ, zero, suc, pos, ◌≤◌, true, List, [], ◌∷◌, map, Option, None, arith, false, refl, sym, subst}
use Rattle.std.specs.Prelude.{All}
use Rattle.std.proofs.lemmas.Int.{ints}
use Rattle.emp_algebra.specs.Deciding.{Weighted, FactorFits}
use Rattle.emp_algebra.specs.Deciding.{Zero as to_be_zero}
use Rattle.emp_rows.specs.Systems.{IsSystem}
use Rattle.emp_rows.specs.declared.affine.Affine.{Affine}
use Rattle.emp_rows.specs.declared.system.Kind.{Kind}
use Rattle.emp_rows.specs.declared.system.Kind.TheVariants.{Nonneg}
use Rattle.emp_rows.specs.declared.system.RowSystem.{RowSystem}
use Rattle.emp_cert.specs.Deciders.{split, refutes, ShowsNone, IsFarkasRow}
use Rattle.emp_cert.specs.Paths.{turn}
use Rattle.emp_search.specs.Search.{Searched, wide_at, out_of_units, search_of}
use Rattle.emp_search.specs.Example.{Reads, apart_rows, box_rows, box_goal, open_rows, open_goal, tied_rows, tied_goal, steep_rows, apart_end, box_end, open_end, tied_end, third_less_fifth, first_less_fourth, ExampleSearches, ExampleTrees}

-- of a record with these fields
abbrev pub OfFields : (RowSystem → Type 0) → ℕ → List Affine → List Kind → List (ℕ × ℕ) → Option Affine → Type 0
OfFields P b qs ks ps o = (sound : IsSystem b qs ks ps o) → P (record { base = b; quantities = qs; kinds = ks; pairs = ps; objective = o; sound = sound })

pub by_fields : (P : RowSystem → Type 0) (b : ℕ) (qs : List Affine) (ps : List (ℕ × ℕ)) (o : Option Affine) → OfFields P b qs (map (λ q. Nonneg) qs) ps o → (s : RowSystem) → Reads s b qs ps o → P s
by_fields P b qs ps o h s r =
    subst (λ x. OfFields P x s.quantities s.kinds s.pairs s.objective) (sym r.bases)
    (subst (λ x. OfFields P b x s.kinds s.pairs s.objective) (sym r.rows)
    (subst (λ x. OfFields P b qs x s.pairs s.objective) (sym r.sorts)
    (subst (λ x. OfFields P b qs (map (λ q. Nonneg) qs) x s.objective) (sym r.links) (subst (λ x. OfFields P b qs (map (λ q. Nonneg) qs) ps x) (sym r.goal) h))))
    s.sound

-- ---- searches
ends_so : (n : ℕ) (e : Searched) (b : ℕ) (qs : List Affine) (ps : List (ℕ × ℕ)) (o : Option Affine) → OfFields (λ s. search_of s n ≡ e) b qs (map (λ q. Nonneg) qs) ps o → (s : RowSystem) → Reads s b qs ps o → search_of s n ≡ e
ends_so n e b qs ps o h s r = by_fields (λ s. search_of s n ≡ e) b qs ps o h s r

pub example_searches : ExampleSearches
example_searches = record {
  none = ends_so 20 (apart_end 15) 3 apart_rows ((3, 2) ∷ (5, 4) ∷ []) None (λ sound. refl);
  enough = ends_so 5 (apart_end 0) 3 apart_rows ((3, 2) ∷ (5, 4) ∷ []) None (λ sound. refl);
  spent = ends_so 4 out_of_units 3 apart_rows ((3, 2) ∷ (5, 4) ∷ []) None (λ sound. refl);
  better = ends_so 9 box_end 2 box_rows ((1, 2) ∷ []) box_goal (λ sound. refl);
  endless = ends_so 9 open_end 2 open_rows ((1, 2) ∷ []) open_goal (λ sound. refl);
  tied = ends_so 9 tied_end 1 tied_rows ((1, 2) ∷ []) tied_goal (λ sound. refl);
  wide = ends_so 9 (wide_at 1 2) 2 steep_rows [] None (λ sound. refl);
}

-- ---- trees
all_none : {A : Type 0} (P : A → Type 0) → All P []
all_none P k d l = absurd (omega arith)

all_more : {A : Type 0} (P : A → Type 0) (x : A) (xs : List A) → P x → All P xs → All P (x ∷ xs)
all_more P x xs h t zero d l = h
all_more P x xs h t (suc k) d l = t k d (omega arith)

abbrev Apart : (RowSystem → Type 0) → Type 0
Apart P = OfFields P 3 apart_rows (map (λ q. Nonneg) apart_rows) ((3, 2) ∷ (5, 4) ∷ []) None

five : {A : Type 0} (P : A → Type 0) (a b c d e : A) → P a → P b → P c → P d → P e → All P (a ∷ b ∷ c ∷ d ∷ e ∷ [])
five P a b c d e h i j k l = all_more P a (b ∷ c ∷ d ∷ e ∷ []) h (all_more P b (c ∷ d ∷ e ∷ []) i (all_more P c (d ∷ e ∷ []) j (all_more P d (e ∷ []) k (all_more P e [] l (all_none P)))))

three : {A : Type 0} (P : A → Type 0) (a b c : A) → P a → P b → P c → All P (a ∷ b ∷ c ∷ [])
three P a b c h i j = all_more P a (b ∷ c ∷ []) h (all_more P b (c ∷ []) i (all_more P c [] j (all_none P)))

first_child : Apart (λ s. IsFarkasRow s (turn 2 false ∷ []) third_less_fifth)
first_child sound = record { factors = five (λ w. FactorFits w.kind w.factor) _ _ _ _ _ (omega (arith, ints)) (omega (arith, ints)) (omega (arith, ints)) (omega (arith, ints)) tt; cells = three (λ a. a ≡ pos 0) _ _ _ refl refl refl; constant = omega (arith, ints) }

second_child : Apart (λ s. IsFarkasRow s (turn 2 true ∷ []) first_less_fourth)
second_child sound = record { factors = five (λ w. FactorFits w.kind w.factor) _ _ _ _ _ (omega (arith, ints)) (omega (arith, ints)) (omega (arith, ints)) tt (omega (arith, ints)); cells = three (λ a. a ≡ pos 0) _ _ _ refl refl refl; constant = omega (arith, ints) }

nothing : Weighted
nothing = record { factor = pos 0; kind = to_be_zero; constant = pos 0; cells = [] }

pub example_trees : ExampleTrees
example_trees = record {
  shows = by_fields (λ s. ShowsNone s [] (split 2 (refutes third_less_fifth) (refutes first_less_fourth))) _ _ _ _ (λ sound. ((omega arith, omega arith), refl, first_child sound, second_child sound));
  turned = by_fields (λ s. ShowsNone s [] (split 2 (refutes first_less_fourth) (refutes third_less_fifth)) → ⊥) _ _ _ _ (λ sound h. absurd (h.2.factors 3 nothing (omega arith)).le);
  first_twice = by_fields (λ s. ShowsNone s [] (split 2 (refutes third_less_fifth) (refutes third_less_fifth)) → ⊥) _ _ _ _ (λ sound h. absurd (h.3.factors 4 nothing (omega arith)).le);
  split_twice = by_fields (λ s. ShowsNone s [] (split 2 (split 2 (refutes third_less_fifth) (refutes third_less_fifth)) (refutes first_less_fourth)) → ⊥) _ _ _ _ (λ sound h. let e : true ≡ false = h.2.1 in cc);
  no_pair = by_fields (λ s. ShowsNone s [] (split 3 (refutes third_less_fifth) (refutes first_less_fourth)) → ⊥) _ _ _ _ (λ sound h. let l : 3 ≤ 2 = h.0.1 in absurd (omega arith));
  unsplit = by_fields (λ s. ShowsNone s [] (refutes third_less_fifth) → ⊥) _ _ _ _ (λ sound h. absurd (h.factors 4 nothing (omega arith)).le);
}
