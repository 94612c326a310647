-- A file has one first broken rule, and none where all rules are kept.
use Rattle.std.proofs.Common.{◌≡◌, ◌≢◌, ◌⊎◌, inl, inr, ℕ, zero, suc, ◌<◌, Bool, false, List, [], ◌∷◌, length, get_or, arith, refl, sym, ap, subst, ◌∙◌}
use Rattle.std.proofs.lemmas.Bool.{cases_order, false≢true}
use Rattle.emp_ast.specs.declared.model.Model.{Model}
use Rattle.emp_ast.specs.declared.annot.Annot.{Annot}
use Rattle.emp_owner.specs.declared.owned.OwnFault.{OwnFault}
use Rattle.emp_owner.specs.declared.owned.OwnFault.TheVariants.{LeaderMissing, Unowned, OwnedTwice, EquationTwice, EquationLeft, ViRelation, NotConstraint, DualShared, DualTwice, DualBound, ImplicitUse, ImplicitRelation, NoMemory}
use Rattle.emp_owner.specs.Rules.{leader_missing, unowned, owned_twice, equation_twice, equation_left, vi_relation, not_constraint, dual_shared, dual_twice, dual_bound, implicit_use, implicit_relation}
use Rattle.emp_owner.specs.Settled.{IsFirst, NoneOf, Kept1, Kept2, Kept3, Kept4, Kept5, Kept6, Kept7, Kept8, Kept9, Kept10, Kept11, IsKept, IsFirstBroken}
use Rattle.emp_outcome_laws.specs.Laws.{OneBroken}

-- ---- the rules in order, each with how many things it is of
abbrev Rule : Type 0
Rule = ℕ × (ℕ → Bool)

abbrev rules : Model → Annot → List Rule
rules m a =
    (1, λ j. leader_missing m a)
    ∷ (length m.variables, unowned a)
    ∷ (length m.variables, owned_twice m a)
    ∷ (length m.equations, equation_twice a)
    ∷ (length m.equations, equation_left a)
    ∷ (length m.equations, vi_relation m a)
    ∷ (length m.equations, not_constraint m a)
    ∷ (length m.equations, dual_shared m a)
    ∷ (length m.equations, dual_twice a)
    ∷ (length m.variables, dual_bound m a)
    ∷ (length m.variables, implicit_use m a)
    ∷ (length m.equations, implicit_relation m a)
    ∷ []

abbrev rule : Model → Annot → ℕ → Rule
rule m a k = get_or (rules m a) k (0, λ j. false)

-- the first rules, as many as the number says, are kept
abbrev FirstKept : Model → Annot → ℕ → Type 0
FirstKept m a zero = Unit {0}
FirstKept m a (suc k) = FirstKept m a k × NoneOf (rule m a k).0 (rule m a k).1

-- rule k is the first that is broken, and thing i the first that breaks it
record Breaks (m : Model) (a : Annot) (k i : ℕ) : Type 0 where
  below : k < 12
  kept : FirstKept m a k
  first : IsFirst (rule m a k).0 (rule m a k).1 i

module _ (m : Model) (a : Annot) where
  none_below : (k i : ℕ) → i < k → FirstKept m a k → NoneOf (rule m a i).0 (rule m a i).1
  none_below zero i l h = absurd (omega arith)
  none_below (suc k) i l h = go (cases_order i k) (λ b. none_below k i b h.0)
    where
      go : (i ≡ k) ⊎ ((i < k) ⊎ (k < i)) → (i < k → NoneOf (rule m a i).0 (rule m a i).1) → NoneOf (rule m a i).0 (rule m a i).1
      go (inl e) rest = subst (λ (n : ℕ). NoneOf (rule m a n).0 (rule m a n).1) (sym e) h.1
      go (inr (inl b)) rest = rest b
      go (inr (inr b)) rest = absurd (omega arith)

  first_none : (k i : ℕ) → IsFirst (rule m a k).0 (rule m a k).1 i → NoneOf (rule m a k).0 (rule m a k).1 → ⊥
  first_none k i f none = false≢true (sym (none i f.0) ∙ f.1)

  kept_1 : Kept1 m a → FirstKept m a 1
  kept_1 h = (tt, λ j l. h)

  kept_2 : Kept2 m a → FirstKept m a 2
  kept_2 h = (kept_1 h.0, h.1)

  kept_3 : Kept3 m a → FirstKept m a 3
  kept_3 h = (kept_2 h.0, h.1)

  kept_4 : Kept4 m a → FirstKept m a 4
  kept_4 h = (kept_3 h.0, h.1)

  kept_5 : Kept5 m a → FirstKept m a 5
  kept_5 h = (kept_4 h.0, h.1)

  kept_6 : Kept6 m a → FirstKept m a 6
  kept_6 h = (kept_5 h.0, h.1)

  kept_7 : Kept7 m a → FirstKept m a 7
  kept_7 h = (kept_6 h.0, h.1)

  kept_8 : Kept8 m a → FirstKept m a 8
  kept_8 h = (kept_7 h.0, h.1)

  kept_9 : Kept9 m a → FirstKept m a 9
  kept_9 h = (kept_8 h.0, h.1)

  kept_10 : Kept10 m a → FirstKept m a 10
  kept_10 h = (kept_9 h.0, h.1)

  kept_11 : Kept11 m a → FirstKept m a 11
  kept_11 h = (kept_10 h.0, h.1)

  kept_all : IsKept m a → FirstKept m a 12
  kept_all h = (kept_11 h.0, h.1)

-- ---- the number of a fault's rule, and of the variable or equation
abbrev number : OwnFault → ℕ
number LeaderMissing = 0
number (Unowned v) = 1
number (OwnedTwice v) = 2
number (EquationTwice e) = 3
number (EquationLeft e) = 4
number (ViRelation e) = 5
number (NotConstraint e) = 6
number (DualShared e) = 7
number (DualTwice e) = 8
number (DualBound v) = 9
number (ImplicitUse v) = 10
number (ImplicitRelation e) = 11
number NoMemory = 12

abbrev thing : OwnFault → ℕ
thing LeaderMissing = 0
thing (Unowned v) = v.at
thing (OwnedTwice v) = v.at
thing (EquationTwice e) = e.at
thing (EquationLeft e) = e.at
thing (ViRelation e) = e.at
thing (NotConstraint e) = e.at
thing (DualShared e) = e.at
thing (DualTwice e) = e.at
thing (DualBound v) = v.at
thing (ImplicitUse v) = v.at
thing (ImplicitRelation e) = e.at
thing NoMemory = 0

abbrev faults : ℕ → List OwnFault
faults i =
    LeaderMissing
    ∷ Unowned (record { at = i })
    ∷ OwnedTwice (record { at = i })
    ∷ EquationTwice (record { at = i })
    ∷ EquationLeft (record { at = i })
    ∷ ViRelation (record { at = i })
    ∷ NotConstraint (record { at = i })
    ∷ DualShared (record { at = i })
    ∷ DualTwice (record { at = i })
    ∷ DualBound (record { at = i })
    ∷ ImplicitUse (record { at = i })
    ∷ ImplicitRelation (record { at = i })
    ∷ []

abbrev fault_at : ℕ → ℕ → OwnFault
fault_at k i = get_or (faults i) k NoMemory

is_at : (f : OwnFault) → fault_at (number f) (thing f) ≡ f
is_at LeaderMissing = refl
is_at (Unowned v) = refl
is_at (OwnedTwice v) = refl
is_at (EquationTwice e) = refl
is_at (EquationLeft e) = refl
is_at (ViRelation e) = refl
is_at (NotConstraint e) = refl
is_at (DualShared e) = refl
is_at (DualTwice e) = refl
is_at (DualBound v) = refl
is_at (ImplicitUse v) = refl
is_at (ImplicitRelation e) = refl
is_at NoMemory = refl

breaks : (m : Model) (a : Annot) (f : OwnFault) → f ≢ NoMemory → IsFirstBroken m a f → Breaks m a (number f) (thing f)
breaks m a LeaderMissing n h = record { below = omega arith; kept = tt; first = (omega arith, h, λ j l. absurd (omega arith)) }
breaks m a (Unowned v) n h = record { below = omega arith; kept = kept_1 m a h.0; first = h.1 }
breaks m a (OwnedTwice v) n h = record { below = omega arith; kept = kept_2 m a h.0; first = h.1 }
breaks m a (EquationTwice e) n h = record { below = omega arith; kept = kept_3 m a h.0; first = h.1 }
breaks m a (EquationLeft e) n h = record { below = omega arith; kept = kept_4 m a h.0; first = h.1 }
breaks m a (ViRelation e) n h = record { below = omega arith; kept = kept_5 m a h.0; first = h.1 }
breaks m a (NotConstraint e) n h = record { below = omega arith; kept = kept_6 m a h.0; first = h.1 }
breaks m a (DualShared e) n h = record { below = omega arith; kept = kept_7 m a h.0; first = h.1 }
breaks m a (DualTwice e) n h = record { below = omega arith; kept = kept_8 m a h.0; first = h.1 }
breaks m a (DualBound v) n h = record { below = omega arith; kept = kept_9 m a h.0; first = h.1 }
breaks m a (ImplicitUse v) n h = record { below = omega arith; kept = kept_10 m a h.0; first = h.1 }
breaks m a (ImplicitRelation e) n h = record { below = omega arith; kept = kept_11 m a h.0; first = h.1 }
breaks m a NoMemory n h = absurd (n refl)

-- ---- one rule, and one thing
firsts_same : (n : ℕ) (test : ℕ → Bool) (i j : ℕ) → IsFirst n test i → IsFirst n test j → i ≡ j
firsts_same n test i j f g = go (cases_order i j)
  where
    go : (i ≡ j) ⊎ ((i < j) ⊎ (j < i)) → i ≡ j
    go (inl e) = e
    go (inr (inl l)) = absurd (false≢true (sym (g.2 i l) ∙ f.1))
    go (inr (inr l)) = absurd (false≢true (sym (f.2 j l) ∙ g.1))

both_same : (k h i j : ℕ) → k ≡ h → i ≡ j → fault_at k i ≡ fault_at h j
both_same k h i j e f = ap (λ (n : ℕ). fault_at n i) e ∙ ap (λ (n : ℕ). fault_at h n) f

one_place : (m : Model) (a : Annot) (k h i j : ℕ) → Breaks m a k i → Breaks m a h j → fault_at k i ≡ fault_at h j
one_place m a k h i j b c = go (cases_order k h)
  where
    go : (k ≡ h) ⊎ ((k < h) ⊎ (h < k)) → fault_at k i ≡ fault_at h j
    go (inl e) = both_same k h i j e (firsts_same (rule m a h).0 (rule m a h).1 i j (subst (λ (n : ℕ). IsFirst (rule m a n).0 (rule m a n).1 i) e b.first) c.first)
    go (inr (inl l)) = absurd (first_none m a k i b.first (none_below m a h k l c.kept))
    go (inr (inr l)) = absurd (first_none m a h j c.first (none_below m a k h l b.kept))

pub one_broken : OneBroken
one_broken m a f g n o b c = sym (is_at f) ∙ (one_place m a (number f) (number g) (thing f) (thing g) (breaks m a f n b) (breaks m a g o c) ∙ is_at g)

-- where all rules are kept none is the first that is broken
pub none_broken : (m : Model) (a : Annot) (f : OwnFault) → f ≢ NoMemory → IsKept m a → IsFirstBroken m a f → ⊥
none_broken m a f n k b = let r = breaks m a f n b in first_none m a (number f) (thing f) r.first (none_below m a 12 (number f) r.below (kept_all m a k))
