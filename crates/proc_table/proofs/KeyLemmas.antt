-- A slab of records in which one key changes.
use Rattle.std.proofs.Common.{◌≡◌, ◌≢◌, ◌+◌, inl, inr, ℕ, cond, is_some, Option, Some, None, sym, ap, ◌∙◌, arith}
use Rattle.std.proofs.lemmas.Bool.{cases_eq}
use Rattle.std.proofs.lemmas.List.Sums.{sum_by-set}
use Rattle.slab.specs.Slab.{Slab, get, slab_len, ContainsKey, with_value, Updates}
use Rattle.slab.proofs.SlabLemmas.{ContainsKey-within}
use Rattle.proc_table.specs.declared.process.Proc.{Proc}
use Rattle.proc_table.specs.Records.{find, Changes, IsProcTable}
use Rattle.proc_table.specs.Fields.{records_of, HasPid, AreKeysApart, IsSound}
use Rattle.proc_table.proofs.FindLemmas.{found_or_not}
use Rattle.proc_table.proofs.SlotLemmas.{none_some, some_same, length-records_of, ArePidsApart-from_slots, stands, stands_not, found, found_not}

-- the key had no record but of this pid, which stood under no other key, and has none but of this pid now
pub record IsKeyed (old : Slab Proc) (key pid : ℕ) (slot : Option Proc) : Type 0 where
  pub was : (p : Proc) → get old key ≡ Some p → p.pid ≡ pid
  pub alone : (k : ℕ) (p : Proc) → get old k ≡ Some p → p.pid ≡ pid → k ≡ key
  pub now : (p : Proc) → slot ≡ Some p → p.pid ≡ pid

module _ (old new : Slab Proc) (key pid : ℕ) (slot : Option Proc) (updates : Updates old new key slot) (keyed : IsKeyed old key pid slot) (apart : AreKeysApart old) where
  -- a record of the new slab is the new one, or was there
  at_key : (k : ℕ) (p : Proc) → k ≡ key → get new k ≡ Some p → slot ≡ Some p
  at_key k p same there = sym updates.changed ∙ sym (ap (get new) same) ∙ there

  at_other : (k : ℕ) (p : Proc) → k ≢ key → get new k ≡ Some p → get old k ≡ Some p
  at_other k p differs there = sym (updates.others k differs) ∙ there

  -- a record of the pid stands under the key
  its_key : (k : ℕ) (p : Proc) → get new k ≡ Some p → p.pid ≡ pid → k ≡ key
  its_key k p there its =
      elim (cases_eq k key) [
        | inl same ↦ same
        | inr differs ↦ keyed.alone k p (at_other k p differs there) its
      ]

  -- a record under the key has the pid
  its_pid : (k : ℕ) (p : Proc) → k ≡ key → get new k ≡ Some p → p.pid ≡ pid
  its_pid k p same there = keyed.now p (at_key k p same there)

  pub AreKeysApart-after : AreKeysApart new
  AreKeysApart-after j k p q at_j at_k same =
      elim (cases_eq j key) [
        | inl here ↦ here ∙ sym (its_key k q at_k (sym same ∙ its_pid j p here at_j))
        | inr j_differs ↦ elim (cases_eq k key) [
          | inl here ↦ its_key j p at_j (same ∙ its_pid k q here at_k) ∙ sym here
          | inr k_differs ↦ apart j k p q (at_other j p j_differs at_j) (at_other k q k_differs at_k) same
        ]
      ]

  changed : find pid (records_of new.slots) ≡ slot
  changed =
      elim (found_or_not slot) [
        | inl none ↦
            found_not pid new.slots (λ k p there its.
            none_some p (sym none ∙ at_key k p (its_key k p there its) there)) ∙ sym none
        | inr some ↦
            let there = updates.changed ∙ some.1 in
            sym (ap (λ q. find q (records_of new.slots)) (keyed.now some.0 some.1))
            ∙ found key some.0 new.slots AreKeysApart-after there ∙ sym some.1
      ]

  others : (other : ℕ) → other ≢ pid → find other (records_of new.slots) ≡ find other (records_of old.slots)
  others other differs =
      elim (found_or_not (find other (records_of old.slots))) [
        | inl none ↦
            found_not other new.slots (λ k p there its.
            elim (cases_eq k key) [
              | inl same ↦ differs (sym its ∙ its_pid k p same there)
              | inr elsewhere ↦ stands_not other k p old.slots none (at_other k p elsewhere there) its
            ]) ∙ sym none
        | inr some ↦
            let at = stands other some.0 old.slots some.1 in
            let elsewhere : at.0 ≢ key = λ same. differs (sym at.2 ∙ keyed.was some.0 (sym (ap (get old) same) ∙ at.1)) in
            let there = updates.others at.0 elsewhere ∙ at.1 in
            sym (ap (λ q. find q (records_of new.slots)) at.2)
            ∙ found at.0 some.0 new.slots AreKeysApart-after there ∙ sym some.1
      ]

  pub Changes-after : Changes (records_of old.slots) (records_of new.slots) pid slot
  Changes-after = record { changed = changed; others = others }

-- a vacant key takes a record whose pid isn't found
pub IsKeyed-vacant : (old : Slab Proc) (key : ℕ) (p : Proc) → get old key ≡ None → find p.pid (records_of old.slots) ≡ None → IsKeyed old key p.pid (Some p)
IsKeyed-vacant old key p vacant absent = record {
  was = λ q there. absurd (none_some q (sym vacant ∙ there));
  alone = λ k q there its. absurd (stands_not p.pid k q old.slots absent there its);
  now = λ q is. sym (ap (λ (x : Proc). x.pid) (some_same p q is));
}

-- a key with a record of the pid gets another, or none
pub IsKeyed-held : (old : Slab Proc) (key pid : ℕ) (slot : Option Proc) → AreKeysApart old → HasPid old key pid
    → ((p : Proc) → slot ≡ Some p → p.pid ≡ pid) → IsKeyed old key pid slot
IsKeyed-held old key pid slot apart held now = record {
  was = λ q there. let same : held.record_there ≡ q = some_same _ _ (sym held.there ∙ there) in sym (ap (λ (x : Proc). x.pid) same) ∙ held.its;
  alone = λ k q there its. apart k key q held.record_there there held.there (its ∙ sym held.its);
  now = now;
}

-- a slab that isn't full stays sound with a record more, whose pid had none
pub sound_taken : (s t : Slab Proc) (key count : ℕ) (p : Proc) → IsSound s → count ≡ slab_len s → count ≢ 64 → find p.pid (records_of s.slots) ≡ None
    → get s key ≡ None → Updates s t key (Some p) → slab_len t ≡ slab_len s + 1 → t.capacity ≡ s.capacity → IsSound t
sound_taken s t key count p sound counts not_full absent vacant updates more capacity = record {
  few = let few = sound.few in omega (arith, few, counts, not_full, more);
  room = let room = sound.room in omega (arith, capacity, room);
  apart = AreKeysApart-after s t key p.pid (Some p) updates (IsKeyed-vacant s key p vacant absent) sound.apart;
}

-- and with a record less
pub sound_left : (s t : Slab Proc) (key pid : ℕ) → IsSound s → HasPid s key pid → Updates s t key None → slab_len t + 1 ≡ slab_len s
    → t.capacity ≡ s.capacity → IsSound t
sound_left s t key pid sound held updates less capacity = record {
  few = let few = sound.few in omega (arith, few, less);
  room = let room = sound.room in omega (arith, room, capacity);
  apart = AreKeysApart-after s t key pid None updates (IsKeyed-held s key pid None sound.apart held (λ p some. absurd (none_some p some))) sound.apart;
}

-- what is found of a pid that stands under a key
pub found-held : (s : Slab Proc) (key pid : ℕ) → AreKeysApart s → HasPid s key pid → get s key ≡ find pid (records_of s.slots)
found-held s key pid apart held =
    held.there ∙ sym (found key held.record_there s.slots apart held.there) ∙ ap (λ q. find q (records_of s.slots)) held.its

pub ContainsKey-held : (s : Slab Proc) (key pid : ℕ) → HasPid s key pid → ContainsKey s key
ContainsKey-held s key pid held = ap is_some held.there

-- a record in the place of another is no record more
pub slab_len-with_value : (s : Slab Proc) (key pid : ℕ) (p : Proc) → HasPid s key pid → slab_len (with_value s key p) ≡ slab_len s
slab_len-with_value s key pid p held =
    let one : Option Proc → ℕ = λ o. cond (is_some o) 1 0 in
    let was : one (get s key) ≡ 1 = ap one held.there in
    omega (arith, was, sum_by-set one s.slots key (Some p) None (ContainsKey-within s key (ContainsKey-held s key pid held)))

pub IsTable-from_sound : (s : Slab Proc) → IsSound s → IsProcTable (records_of s.slots)
IsTable-from_sound s sound = record {
  few = let few = sound.few in omega (arith, few, length-records_of s.slots);
  apart = ArePidsApart-from_slots s.slots sound.apart;
}
