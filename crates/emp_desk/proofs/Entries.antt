-- One more entry raises the count of its own place alone.
use Rattle.std.proofs.Common.{◌≡◌, ◌≢◌, ◌++◌, ℕ, ◌+◌, true, false, cond, List, [], ◌∷◌, string_bytes, String, sym, refl, ap, ◌∙◌, arith}
use Rattle.std.specs.List.{count_by}
use Rattle.std.specs.Str.{bytes_eq}
use Rattle.std.specs.Cmp.Lexicographic.{bytes_decides}
use Rattle.std.proofs.lemmas.Bool.{false_from_ne_true}
use Rattle.std.proofs.lemmas.List.Sums.{sum_by_push}
use Rattle.emp_desk.specs.Desk.{Place, loads, stores, output}
use Rattle.emp_desk.specs.Counts.{HasOneMoreAt}
use Rattle.emp_desk.specs.CallLog.{is_at}
use Rattle.emp_desk.specs.declared.call_log.Fault.{Fault}
use Rattle.emp_desk.specs.declared.call_log.Fault.TheVariants.{Load, Store, Say}

-- an entry is at its place, and at no other
pub record IsEntryOf (place : Place) (fault : Fault) : Type 0 where
  pub here : is_at place fault ≡ true
  pub others : (other : Place) → other ≢ place → is_at other fault ≡ false

pub one_more : (place : Place) (fault : Fault) (before after : List Fault) → IsEntryOf place fault → after ≡ before ++ fault ∷ [] → HasOneMoreAt place (λ at. count_by (is_at at) before) (λ at. count_by (is_at at) after)
one_more place fault before after entry pushed = record {
  here = count place ∙ ap (λ b. count_by (is_at place) before + cond b 1 0) entry.here;
  others = λ other apart. count other ∙ ap (λ b. count_by (is_at other) before + cond b 1 0) (entry.others other apart) ∙ omega arith;
}
  where
    count : (at : Place) → count_by (is_at at) after ≡ count_by (is_at at) before + cond (is_at at fault) 1 0
    count at = ap (count_by (is_at at)) pushed ∙ sum_by_push (λ x. cond (is_at at x) 1 0) before fault

module _ {Y : Type 0} (name : List ℕ) (text : String Y) (same : string_bytes text ≡ name) where
  pub eq_here : bytes_eq name (string_bytes text) ≡ true
  eq_here = (bytes_decides name (string_bytes text)).1 (sym same)

  pub eq_apart : (other : List ℕ) → other ≢ name → bytes_eq other (string_bytes text) ≡ false
  eq_apart other apart = false_from_ne_true (bytes_eq other (string_bytes text)) (λ e. apart ((bytes_decides other (string_bytes text)).0 e ∙ same))

pub load_entry : (name : List ℕ) (text : _) → string_bytes text ≡ name → IsEntryOf (loads name) (Load text)
load_entry name text same = record { here = eq_here name text same; others = others }
  where
    others : (other : Place) → other ≢ loads name → is_at other (Load text) ≡ false
    others (loads n) apart = eq_apart name text same n (λ e. apart (ap loads e))
    others (stores n) apart = refl
    others output apart = refl

pub store_entry : (name : List ℕ) (text : _) → string_bytes text ≡ name → IsEntryOf (stores name) (Store text)
store_entry name text same = record { here = eq_here name text same; others = others }
  where
    others : (other : Place) → other ≢ stores name → is_at other (Store text) ≡ false
    others (loads n) apart = refl
    others (stores n) apart = eq_apart name text same n (λ e. apart (ap stores e))
    others output apart = refl

pub say_entry : IsEntryOf output Say
say_entry = record { here = refl; others = others }
  where
    others : (other : Place) → other ≢ output → is_at other Say ≡ false
    others (loads n) apart = refl
    others (stores n) apart = refl
    others output apart = absurd (apart refl)

pub ruleset entries = (one_more, load_entry, store_entry, say_entry)
