-- Stores and says that took only a part of their bytes.
use Rattle.std.proofs.Common.{◌≡◌, ◌++◌, ℕ, List, [], take, drop, append-nil, OnOk, OnErr, Result, Ok, Err, sym, refl, ap, ◌∙◌}
use Rattle.std.specs.Option.{unwrap_or}
use Rattle.std.proofs.lemmas.List.{take-append-drop}
use Rattle.emp_desk.specs.Desk.{StoresPrefix, SaysPrefix}
use Rattle.emp_desk.specs.Files.{Puts, Removes, IsSameFiles}
use Rattle.emp_desk.specs.Memory.{files_of, output_of, contents_of}
use Rattle.emp_desk.specs.declared.memory.Memory.{Memory}

-- a file that was taken away has a prefix of any bytes
pub removed_is_part : (name bytes : List ℕ) (before after : Memory) → Removes name (files_of before) (files_of after) → output_of after ≡ output_of before → StoresPrefix name bytes (contents_of before) (contents_of after)
removed_is_part name bytes before after r s = record {
  here = (bytes, ap (λ o. unwrap_or o [] ++ bytes) r.here);
  others = λ other apart. ap (λ o. unwrap_or o []) (r.others other apart);
  said = s;
}

-- a file that was made of the first bytes has a prefix of them
pub first_is_part : (name bytes : List ℕ) (most : ℕ) (before after : Memory) → Puts name (take most bytes) (files_of before) (files_of after) → output_of after ≡ output_of before → StoresPrefix name bytes (contents_of before) (contents_of after)
first_is_part name bytes most before after p s = record {
  here = (drop most bytes, ap (λ o. unwrap_or o [] ++ drop most bytes) p.here ∙ take-append-drop most bytes);
  others = λ other apart. ap (λ o. unwrap_or o []) (p.others other apart);
  said = s;
}

pub first_said : (bytes : List ℕ) (most : ℕ) (before after : Memory) → output_of after ≡ output_of before ++ take most bytes → IsSameFiles (files_of before) (files_of after) → SaysPrefix bytes (contents_of before) (contents_of after)
first_said bytes most before after e k = record {
  part = take most bytes;
  prefix = (drop most bytes, take-append-drop most bytes);
  said = e;
  files = λ name. ap (λ o. unwrap_or o []) (k name);
}

pub none_said : (bytes : List ℕ) (before after : Memory) → output_of after ≡ output_of before → IsSameFiles (files_of before) (files_of after) → SaysPrefix bytes (contents_of before) (contents_of after)
none_said bytes before after e k = record {
  part = [];
  prefix = (bytes, refl);
  said = e ∙ sym (append-nil (output_of before));
  files = λ name. ap (λ o. unwrap_or o []) (k name);
}

-- the same, whether or not there was memory
pub part_stored : {X E : Type 0} (r : Result X E) (name bytes : List ℕ) (most : ℕ) (before after : Memory) → OnOk r (Puts name (take most bytes) (files_of before) (files_of after)) → OnErr r (Removes name (files_of before) (files_of after)) → output_of after ≡ output_of before → StoresPrefix name bytes (contents_of before) (contents_of after)
part_stored (Ok x) name bytes most before after p r s = first_is_part name bytes most before after p s
part_stored (Err e) name bytes most before after p r s = removed_is_part name bytes before after r s

pub part_said : {X E : Type 0} (r : Result X E) (bytes : List ℕ) (most : ℕ) (before after : Memory) → OnOk r (output_of after ≡ output_of before ++ take most bytes) → OnErr r (output_of after ≡ output_of before) → IsSameFiles (files_of before) (files_of after) → SaysPrefix bytes (contents_of before) (contents_of after)
part_said (Ok x) bytes most before after p r k = first_said bytes most before after p k
part_said (Err e) bytes most before after p r k = none_said bytes before after r k
