-- How the counts change over a call that was counted first and then failed.
use Rattle.std.proofs.Common.{◌≡◌, ◌≢◌, List, ℕ, ◌+◌, ◌<◌, sym, ap, ◌∙◌, subst, inl, arith}
use Rattle.emp_desk.specs.Desk.{Place, loads, Rose, NoneFalls, OnlyAt}
use Rattle.emp_desk.specs.Counts.{HasSameCounts, HasOneMoreAt}
use Rattle.emp_desk.specs.MemoryDesk.{LoadFaultCounts, StoreFaultCounts}
use Rattle.emp_desk.specs.declared.desk.LoadFault.{LoadFault}
use Rattle.emp_desk.specs.declared.desk.LoadFault.TheVariants as load_fault
use Rattle.emp_desk.specs.declared.desk.StoreFault.{StoreFault}
use Rattle.emp_desk.specs.declared.desk.StoreFault.TheVariants as store_fault

one_more_after : (place : Place) (before mid after : Place → ℕ) → HasSameCounts before mid → HasOneMoreAt place mid after → HasOneMoreAt place before after
one_more_after place before mid after same more = record {
  here = more.here ∙ ap (λ n. n + 1) (same place);
  others = λ other apart. more.others other apart ∙ same other;
}

same_after : (before mid after : Place → ℕ) → HasSameCounts before mid → HasSameCounts mid after → HasSameCounts before after
same_after before mid after same more = λ place. more place ∙ same place

one_more_rose : (place : Place) (before after : Place → ℕ) → HasOneMoreAt place before after → Rose (before place) (after place)
one_more_rose place before after more = inl (omega (arith, more.here))

one_more_none_falls : (place : Place) (before after : Place → ℕ) → HasOneMoreAt place before after → NoneFalls before after
one_more_none_falls place before after more = λ at.
    let not_less : after at < before at → ⊥ = λ less.
    (let apart : at ≢ place = λ e. (let here : after at ≡ before at + 1 = subst (λ p. after p ≡ before p + 1) (sym e) more.here in omega arith) in
    let same : after at ≡ before at = more.others at apart in
    omega arith) in
    omega (arith, not_less)

same_none_falls : (before after : Place → ℕ) → HasSameCounts before after → NoneFalls before after
same_none_falls before after same = λ at. omega (arith, same at)

-- ---- a load
pub load_after : (name : List ℕ) (before mid after : Place → ℕ) (fault : LoadFault) → HasSameCounts before mid → LoadFaultCounts name mid after fault → LoadFaultCounts name before after fault
load_after name before mid after load_fault.Failed same counts = one_more_after (loads name) before mid after same counts
load_after name before mid after load_fault.NoMemory same counts = same_after before mid after same counts

pub load_rose : (name : List ℕ) (before mid after : Place → ℕ) (fault : LoadFault) → HasSameCounts before mid → LoadFaultCounts name mid after fault → fault ≡ load_fault.Failed → Rose (before (loads name)) (after (loads name))
load_rose name before mid after load_fault.Failed same counts e = one_more_rose (loads name) before after (one_more_after (loads name) before mid after same counts)
load_rose name before mid after load_fault.NoMemory same counts e = cc

pub load_none_falls : (name : List ℕ) (before mid after : Place → ℕ) (fault : LoadFault) → HasSameCounts before mid → LoadFaultCounts name mid after fault → NoneFalls before after
load_none_falls name before mid after load_fault.Failed same counts = one_more_none_falls (loads name) before after (one_more_after (loads name) before mid after same counts)
load_none_falls name before mid after load_fault.NoMemory same counts = same_none_falls before after (same_after before mid after same counts)

pub load_only_at : (name : List ℕ) (before mid after : Place → ℕ) (fault : LoadFault) → HasSameCounts before mid → LoadFaultCounts name mid after fault → OnlyAt (loads name) before after
load_only_at name before mid after load_fault.Failed same counts = λ at apart. counts.others at apart ∙ same at
load_only_at name before mid after load_fault.NoMemory same counts = λ at apart. counts at ∙ same at

-- ---- a store or a say
pub store_after : (place : Place) (before mid after : Place → ℕ) (fault : StoreFault) → HasSameCounts before mid → StoreFaultCounts place mid after fault → StoreFaultCounts place before after fault
store_after place before mid after store_fault.Failed same counts = one_more_after place before mid after same counts
store_after place before mid after store_fault.NoMemory same counts = same_after before mid after same counts

pub store_rose : (place : Place) (before mid after : Place → ℕ) (fault : StoreFault) → HasSameCounts before mid → StoreFaultCounts place mid after fault → fault ≡ store_fault.Failed → Rose (before place) (after place)
store_rose place before mid after store_fault.Failed same counts e = one_more_rose place before after (one_more_after place before mid after same counts)
store_rose place before mid after store_fault.NoMemory same counts e = cc

pub store_none_falls : (place : Place) (before mid after : Place → ℕ) (fault : StoreFault) → HasSameCounts before mid → StoreFaultCounts place mid after fault → NoneFalls before after
store_none_falls place before mid after store_fault.Failed same counts = one_more_none_falls place before after (one_more_after place before mid after same counts)
store_none_falls place before mid after store_fault.NoMemory same counts = same_none_falls before after (same_after before mid after same counts)

pub store_only_at : (place : Place) (before mid after : Place → ℕ) (fault : StoreFault) → HasSameCounts before mid → StoreFaultCounts place mid after fault → OnlyAt place before after
store_only_at place before mid after store_fault.Failed same counts = λ at apart. counts.others at apart ∙ same at
store_only_at place before mid after store_fault.NoMemory same counts = λ at apart. counts at ∙ same at
