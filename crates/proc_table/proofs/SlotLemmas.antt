-- The records in a list of slots.
use Rattle.std.proofs.Common.{◌≡◌, ◌≢◌, inl, inr, ℕ, zero, suc, ◌+◌, List, [], ◌∷◌, ◌++◌, length, map, Bor, append_assoc, get_or, is_some, count_by, Option, Some, None, refl, sym, ap, ◌∙◌, arith}
use Rattle.std.proofs.lemmas.Bool.{cases_eq}
use Rattle.std.proofs.lemmas.List.{map-append}
use Rattle.slab.specs.Slab.{entries_from}
use Rattle.slab.proofs.DrainLemmas.{length-values}
use Rattle.proc_table.specs.declared.process.Proc.{Proc}
use Rattle.proc_table.specs.Records.{find, ArePidsApart}
use Rattle.proc_table.specs.Fields.{records_of}
use Rattle.proc_table.proofs.FindLemmas.{found_or_not, find-here, find-later}

-- no pid stands in two slots
abbrev pub AreSlotsApart : List (Option Proc) → Type 0
AreSlotsApart slots = (j k : ℕ) (p q : Proc) → get_or slots j None ≡ Some p → get_or slots k None ≡ Some q → p.pid ≡ q.pid → j ≡ k

pub none_some : (p : Proc) → None ≡ Some p → ⊥
none_some p same = absurd (cc)

pub some_same : (p q : Proc) → Some p ≡ Some q → p ≡ q
some_same p q same = cc

-- there are as many records as slots with one
pub length-records_of : (slots : List (Option Proc)) → length (records_of slots) ≡ count_by is_some slots
length-records_of slots = sym (length-values slots)

-- the records of the entries that an iterator gave
abbrev pub seen : List (ℕ × Bor Proc) → List Proc
seen given = map (λ e. e.1.now) given

pub seen_more : (given : List (ℕ × Bor Proc)) (key : ℕ) (p : Bor Proc) → seen (given ++ (key, p) ∷ []) ≡ seen given ++ p.now ∷ []
seen_more given key p = map-append (λ (e : ℕ × Bor Proc). e.1.now) given ((key, p) ∷ [])

-- what was given and what is left are all, still when one more was given
pub left_less : (given : List (ℕ × Bor Proc)) (key : ℕ) (p : Bor Proc) (left later all : List (ℕ × Proc)) → left ≡ (key, p.now) ∷ later
    → seen given ++ map (λ e. e.1) left ≡ map (λ e. e.1) all → seen (given ++ (key, p) ∷ []) ++ map (λ e. e.1) later ≡ map (λ e. e.1) all
left_less given key p left later all steps were =
    ap (λ ps. ps ++ map (λ e. e.1) later) (seen_more given key p)
    ∙ append_assoc (seen given) (p.now ∷ []) (map (λ e. e.1) later)
    ∙ ap (λ es. seen given ++ map (λ e. e.1) es) (sym steps) ∙ were

-- a slab's entries are its records, with their keys
pub records_of-entries : (key : ℕ) (slots : List (Option Proc)) → map (λ e. e.1) (entries_from key slots) ≡ records_of slots
records_of-entries key [] = refl
records_of-entries key (None ∷ rest) = records_of-entries (key + 1) rest
records_of-entries key (Some p ∷ rest) = ap (λ ps. p ∷ ps) (records_of-entries (key + 1) rest)

-- a pid that isn't found stands in no slot
pub stands_not : (pid k : ℕ) (p : Proc) (slots : List (Option Proc)) → find pid (records_of slots) ≡ None → get_or slots k None ≡ Some p → p.pid ≢ pid
stands_not pid k p [] none there = absurd (cc)
stands_not pid zero p (None ∷ rest) none there = absurd (cc)
stands_not pid zero p (Some r ∷ rest) none there =
    λ same. let here : r.pid ≡ pid = ap (λ (x : Proc). x.pid) (some_same r p there) ∙ same in
    let found = find-here pid r (records_of rest) here in absurd (cc)
stands_not pid (suc k) p (None ∷ rest) none there = stands_not pid k p rest none there
stands_not pid (suc k) p (Some r ∷ rest) none there =
    elim (cases_eq r.pid pid) [
      | inl here ↦ let found = find-here pid r (records_of rest) here in absurd (cc)
      | inr differs ↦ stands_not pid k p rest (sym (find-later pid r (records_of rest) differs) ∙ none) there
    ]

-- a record that is found has the pid and stands in some slot
pub stands : (pid : ℕ) (p : Proc) (slots : List (Option Proc)) → find pid (records_of slots) ≡ Some p → (k : ℕ) × (get_or slots k None ≡ Some p) × (p.pid ≡ pid)
stands pid p [] found = absurd (cc)
stands pid p (None ∷ rest) found =
    let later = stands pid p rest found in (suc later.0, later.1, later.2)
stands pid p (Some r ∷ rest) found =
    elim (cases_eq r.pid pid) [
      | inl here ↦
          let same : r ≡ p = some_same r p (sym (find-here pid r (records_of rest) here) ∙ found) in
          (zero, ap (λ (x : Proc). Some x) same, sym (ap (λ (x : Proc). x.pid) same) ∙ here)
      | inr differs ↦
          let later = stands pid p rest (sym (find-later pid r (records_of rest) differs) ∙ found) in
          (suc later.0, later.1, later.2)
    ]

-- a pid that stands in no slot isn't found
pub found_not : (pid : ℕ) (slots : List (Option Proc)) → ((k : ℕ) (p : Proc) → get_or slots k None ≡ Some p → p.pid ≢ pid) → find pid (records_of slots) ≡ None
found_not pid slots nowhere =
    elim (found_or_not (find pid (records_of slots))) [
      | inl none ↦ none
      | inr found ↦
          let at = stands pid found.0 slots found.1 in
          absurd (nowhere at.0 found.0 at.1 at.2)
    ]

-- a record in a slot is found by its pid
pub found : (k : ℕ) (p : Proc) (slots : List (Option Proc)) → AreSlotsApart slots → get_or slots k None ≡ Some p → find p.pid (records_of slots) ≡ Some p
found k p slots apart there =
    elim (found_or_not (find p.pid (records_of slots))) [
      | inl none ↦ absurd (stands_not p.pid k p slots none there refl)
      | inr other ↦
          let at = stands p.pid other.0 slots other.1 in
          let key : at.0 ≡ k = apart at.0 k other.0 p at.1 there at.2 in
          other.1 ∙ sym at.1 ∙ ap (λ i. get_or slots i None) key ∙ there
    ]

pub ArePidsApart-from_slots : (slots : List (Option Proc)) → AreSlotsApart slots → ArePidsApart (records_of slots)
ArePidsApart-from_slots [] apart = tt
ArePidsApart-from_slots (None ∷ rest) apart =
    ArePidsApart-from_slots rest (λ j k p q at_j at_k same. let next = apart (suc j) (suc k) p q at_j at_k same in omega arith)
ArePidsApart-from_slots (Some p ∷ rest) apart = (
  found_not p.pid rest (λ k r there same. let wrong : suc k ≡ zero = apart (suc k) zero r p there refl same in omega arith),
  ArePidsApart-from_slots rest (λ j k r q at_j at_k same. let next = apart (suc j) (suc k) r q at_j at_k same in omega arith),
)
