-- Pops and pushes: where they read and write.
use Rattle.std.proofs.Common.{◌≡◌, ◌≢◌, ℕ, zero, suc, ◌+◌, ◌-◌, ◌*◌, ◌/◌, ◌%◌, ◌^◌, ◌<◌, ◌≤◌, Bool, true, false, cond, List, [], ◌∷◌, ◌++◌, length, get_or, None, ◌⊎◌, inl, inr, refl, sym, ap, ◌∙◌, subst, arith, length-append, ◌==◌}
use Rattle.std.proofs.lemmas.Bool.{cases_lt}
use Rattle.std.proofs.lemmas.List.{get_or-set_same, get_or-set_other, get_or_past, length-set}
use Rattle.vm_facts.specs.Answers.{Answers, ByteWrite}
use Rattle.vm_facts.specs.declared.regs.Regs.{Regs}
use Rattle.user_vax.specs.declared.operand.Place.{Place}
use Rattle.user_vax.specs.declared.operand.Place.TheVariants as places
use Rattle.user_vax.specs.Program.{Gives, Refuses, ◌>>=◌}
use Rattle.user_vax.specs.Operands.{register, with_register, past, back, number_at}
use Rattle.user_vax.specs.Effects.{Effect, registers_only, bytes_at, store_effect, push_onto, push_effect, pop, pop_into, subroutine_return}
use Rattle.user_vax.specs.Frames.{bit, push_all, saved, frame, with_aligned_stack, with_frame, procedure_entry, procedure_call, restored, linkage, with_raised_stack, arguments_dropped, unwound, with_state_codes, procedure_return, registers_returned}
use Rattle.user_vax.specs.Instruction.{write_tests}
use Rattle.flat_laws.proofs.Near.{IsAt, at_self, at_past, at_more, IsFrom, from_back, from_less, from_pushed, at_pushed, from_aligned}
use Rattle.flat_laws.proofs.Cover.{Within, within_bind, yields_bind, yields_any, Covered, within_one, covered_rebased, covered_gives, covered_refuses, covered_bind, covered_behind}
use Rattle.flat_laws.proofs.Fetched.{within_number, number_covered}
use Rattle.flat_laws.proofs.Computations.{AllGives}

abbrev pub sp : Regs → ℕ
sp regs = register regs 14

-- SP is what was put into it, or what it was
pub sp_put : (P : ℕ → Type 0) (regs : Regs) (value : ℕ) → P value → P (sp regs) → P (sp (with_register regs 14 value))
sp_put P regs value new old = go (cases_lt 14 (length regs.r))
  where
    go : (14 < length regs.r) ⊎ (length regs.r ≤ 14) → P (sp (with_register regs 14 value))
    go (inl l) = subst P (sym (get_or-set_same regs.r 14 value 0 l)) new
    go (inr l) =
        let sp_list : Regs → ℕ → List ℕ = λ regs value. (with_register regs 14 value).r in
        subst P (get_or_past regs.r 14 0 l ∙ sym (get_or_past (sp_list regs value) 14 0 (let n = length-set regs.r 14 value in omega arith))) old

-- another register leaves SP
pub sp_kept : (regs : Regs) (reg value : ℕ) → reg ≢ 14 → sp (with_register regs reg value) ≡ sp regs
sp_kept regs reg value other = get_or-set_other regs.r reg 14 value 0 (λ e. other (sym e))

-- Pops.

pub within_pop : (start most : ℕ) (regs : Regs) → IsAt start most (sp regs) → most + 4 ≤ 1024
    → Within start (λ (r : Regs × ℕ). IsAt start (most + 4) (sp r.0)) (pop regs)
unfolding pop
within_pop start most regs h l =
    within_bind start (λ _. Unit {0}) (λ (r : Regs × ℕ). IsAt start (most + 4) (sp r.0)) (number_at 4 (sp regs)) _ (within_number 4 start most (sp regs) h l)
    (λ value _. sp_put (λ (x : ℕ). IsAt start (most + 4) x) regs (past (sp regs) 4) (at_past start most 4 (sp regs) h) (at_more start most (most + 4) (sp regs) (omega arith) h))

pub within_pop_into : (start most : ℕ) (regs : Regs) (reg : ℕ) → reg ≢ 14 → IsAt start most (sp regs) → most + 4 ≤ 1024
    → Within start (λ (r : Regs). IsAt start (most + 4) (sp r)) (pop_into regs reg)
unfolding pop_into
within_pop_into start most regs reg other h l =
    within_bind start (λ (r : Regs × ℕ). IsAt start (most + 4) (sp r.0)) (λ (r : Regs). IsAt start (most + 4) (sp r)) (pop regs) _ (within_pop start most regs h l)
    (λ r k. subst (λ (x : ℕ). IsAt start (most + 4) x) (sym (sp_kept r.0 reg r.1 other)) k)

within_restored : (more mask start most : ℕ) (regs : Regs) → IsAt start most (sp regs) → most + 4 * more ≤ 1020
    → Within start (λ _. Unit {0}) (restored more mask regs)
unfolding restored
within_restored zero mask start most regs h l = tt
within_restored (suc more) mask start most regs h l =
    within_bind start (λ (r : Regs). IsAt start (most + 4) (sp r)) (λ _. Unit {0}) (cond (bit mask (11 - more)) (pop_into regs (11 - more)) (Gives regs)) (restored more mask)
    (go (bit mask (11 - more)))
    (λ r k. within_restored more mask start (most + 4) r k (omega arith))
  where
    go : (b : Bool) → Within start (λ (r : Regs). IsAt start (most + 4) (sp r)) (cond b (pop_into regs (11 - more)) (Gives regs))
    go true = within_pop_into start most regs (11 - more) (λ e. absurd (omega (arith, e))) h (omega (arith, l))
    go false = at_more start most (most + 4) (sp regs) (omega arith) h

within_linkage : (start most : ℕ) (regs : Regs) → IsAt start most (sp regs) → most + 12 ≤ 1024
    → Within start (λ (r : Regs). IsAt start (most + 4 + 4 + 4) (sp r)) (linkage regs)
unfolding linkage
within_linkage start most regs h l =
    within_bind start (λ (r : Regs). IsAt start (most + 4) (sp r)) (λ (r : Regs). IsAt start (most + 4 + 4 + 4) (sp r)) (pop_into regs 12) _
    (within_pop_into start most regs 12 (λ e. absurd (omega (arith, e))) h (omega arith)) (λ r k.
    within_bind start (λ (r : Regs). IsAt start (most + 4 + 4) (sp r)) (λ (r : Regs). IsAt start (most + 4 + 4 + 4) (sp r)) (pop_into r 13) _
    (within_pop_into start (most + 4) r 13 (λ e. absurd (omega (arith, e))) k (omega arith)) (λ q m.
    within_pop_into start (most + 4 + 4) q 15 (λ e. absurd (omega (arith, e))) m (omega arith)))

dropped_covered : (memory : Answers) (base : ℕ) (counted : Bool) (regs : Regs) → Covered memory base 1 (arguments_dropped counted regs)
unfolding arguments_dropped
dropped_covered memory base false regs = covered_gives memory base 1 _
dropped_covered memory base true regs =
    covered_bind memory base 1 0 (pop regs) _ (within_one memory base (sp regs) _ (pop regs) (within_pop (sp regs) 0 regs (at_self (sp regs)) (omega arith))) (λ count e. covered_gives memory base 0 _)

unwound_covered : (memory : Answers) (start state : ℕ) (regs : Regs) → IsAt start 4 (sp regs) → Covered memory start 1 (unwound state regs)
unfolding unwound
unwound_covered memory start state regs h =
    covered_behind memory start 1 (λ (r : Regs). IsAt start (4 + 4 + 4 + 4) (sp r)) (linkage regs) _ (within_linkage start 4 regs h (omega arith)) (λ linked k.
    covered_behind memory start 1 (λ _. Unit {0}) (restored 12 (state / 2 ^ 16) linked) _ (within_restored 12 (state / 2 ^ 16) start (4 + 4 + 4 + 4) linked k (omega arith)) (λ with_saved _.
    dropped_covered memory start (bit state 29) (with_raised_stack with_saved (state / 2 ^ 30))))

-- what RET reads: the frame, and the count of the argument list
registers_covered : (memory : Answers) (base : ℕ) (regs : Regs) → Covered memory base 2 (registers_returned regs)
unfolding registers_returned
registers_covered memory base regs =
    let popping : Regs = with_register regs 14 (past (register regs 13) 4) in
    covered_rebased memory base (sp popping) 1 (registers_returned regs)
    (covered_behind memory (sp popping) 1 (λ (r : Regs × ℕ). IsAt (sp popping) 4 (sp r.0)) (pop popping) _ (within_pop (sp popping) 0 popping (at_self (sp popping)) (omega arith)) (λ state k.
    go (sp popping) state.0 state.1 k (state.1 / 2 ^ 4 % 2 ^ 12 == 0)))
  where
    go : (start : ℕ) (after : Regs) (state : ℕ) → IsAt start 4 (sp after) → (b : Bool)
        → Covered memory start 1 (cond b (unwound state after >>= λ last. Gives (with_state_codes last state)) (Refuses 4))
    go start after state k true = covered_bind memory start 1 0 (unwound state after) _ (unwound_covered memory start state after k) (λ last e. covered_gives memory start 0 _)
    go start after state k false = covered_refuses memory start 1 4

pub return_covered : (memory : Answers) (base : ℕ) (regs : Regs) → Covered memory base 2 (procedure_return regs)
unfolding procedure_return
return_covered memory base regs = covered_bind memory base 2 0 (registers_returned regs) _ (registers_covered memory base regs) (λ last e. covered_gives memory base 0 _)

pub subroutine_covered : (memory : Answers) (base : ℕ) (regs : Regs) → Covered memory base 1 (subroutine_return regs)
unfolding subroutine_return
subroutine_covered memory base regs =
    covered_bind memory base 1 0 (pop_into regs 15) _ (within_one memory base (sp regs) _ (pop_into regs 15)
    (within_pop_into (sp regs) 0 regs 15 (λ e. absurd (omega (arith, e))) (at_self (sp regs)) (omega arith))) (λ last e. covered_gives memory base 0 _)

-- Writes.

-- all these bytes are near a start
abbrev pub AreWrittenAt : ℕ → List ByteWrite → Type 0
AreWrittenAt start [] = Unit {0}
AreWrittenAt start (w ∷ ws) = IsAt start 1023 w.address × AreWrittenAt start ws

pub written_append : (start : ℕ) (xs ys : List ByteWrite) → AreWrittenAt start xs → AreWrittenAt start ys → AreWrittenAt start (xs ++ ys)
written_append start [] ys h k = k
written_append start (x ∷ xs) ys h k = (h.0, written_append start xs ys h.1 k)

pub bytes_written : (size start most address value : ℕ) → IsAt start most address → most + size ≤ 1024 → AreWrittenAt start (bytes_at size address value)
unfolding bytes_at
bytes_written zero start most address value h l = tt
bytes_written (suc size) start most address value h l =
    (at_more start most 1023 address (omega arith) h, bytes_written size start (most + 1) (past address 1) (value / 256) (at_past start most 1 address h) (omega arith))

pub within_tests : (start : ℕ) (ws : List ByteWrite) → AreWrittenAt start ws → Within start (λ _. Unit {0}) (write_tests ws)
unfolding write_tests
within_tests start [] h = tt
within_tests start (w ∷ ws) h = (h.0, within_tests start ws h.1)

-- Pushes.

-- what was pushed is near the start, and so many bytes below SP are
pub record MayPush (start least : ℕ) (effect : Effect) : Type 0 where
  pub written : AreWrittenAt start effect.writes
  pub room : IsFrom start least (sp effect.regs)

push_near : (start least : ℕ) (effect : Effect) (value : ℕ) → MayPush start (least + 4) effect → MayPush start least (push_onto effect value)
unfolding push_onto
push_near start least effect value h = record {
  written = written_append start effect.writes (bytes_at 4 (back (sp effect.regs) 4) value) h.written
      (bytes_written 4 start 1019 (back (sp effect.regs) 4) value (at_pushed start least (sp effect.regs) h.room) (omega arith));
  room = sp_put (λ (x : ℕ). IsFrom start least x) effect.regs (back (sp effect.regs) 4) (from_pushed start least (sp effect.regs) h.room)
      (from_less start (least + 4) least (sp effect.regs) (omega arith) h.room);
}

pushes_near : (values : List ℕ) (start : ℕ) (effect : Effect) → MayPush start (4 * length values) effect → AreWrittenAt start (push_all effect values).writes
unfolding push_all
pushes_near [] start effect h = h.written
pushes_near (value ∷ values) start effect h =
    pushes_near values start (push_onto effect value) (push_near start (4 * length values) effect value (subst (λ (n : ℕ). MayPush start n effect) (omega arith) h))

saved_few : (k : ℕ) (registers : List ℕ) (mask : ℕ) → length (saved k registers mask) ≤ k
unfolding saved
saved_few zero registers mask = omega arith
saved_few (suc k) registers mask = go (bit mask k) (saved_few k registers mask)
  where
    go : (b : Bool) → length (saved k registers mask) ≤ k → length (cond b (get_or registers k 0 ∷ saved k registers mask) (saved k registers mask)) ≤ suc k
    go true h = omega arith
    go false h = omega arith

frame_few : (regs : Regs) (counted : Bool) (mask : ℕ) → length (frame regs counted mask) ≤ 17
frame_few regs counted mask =
    let n = length-append (saved 12 regs.r mask) (register regs 15 ∷ register regs 13 ∷ register regs 12 ∷ (register regs 14 % 4 * 2 ^ 30 + cond counted (2 ^ 29) 0 + mask * 2 ^ 16) ∷ 0 ∷ []) in
    let m = saved_few 12 regs.r mask in
    omega arith

frame_near : (start least : ℕ) (before : Effect) (counted : Bool) (mask : ℕ) → 71 ≤ least → MayPush start least before
    → AreWrittenAt start (with_frame before counted mask).writes
unfolding with_frame
frame_near start least before counted mask l h =
    let n = frame_few before.regs counted mask in
    pushes_near (frame before.regs counted mask) start (record before { regs = with_aligned_stack before.regs })
    (record {
      written = h.written;
      room = sp_put (λ (x : ℕ). IsFrom start (4 * length (frame before.regs counted mask)) x) before.regs (sp before.regs / 4 * 4)
          (from_aligned start (4 * length (frame before.regs counted mask)) (sp before.regs)
          (from_less start least (4 * length (frame before.regs counted mask) + 3) (sp before.regs) (omega arith) h.room))
          (from_less start least (4 * length (frame before.regs counted mask)) (sp before.regs) (omega arith) h.room);
    })

pushes_call : (values : List ℕ) (effect : Effect) → (push_all effect values).call ≡ effect.call
unfolding push_all push_onto
pushes_call [] effect = refl
pushes_call (value ∷ values) effect = pushes_call values (push_onto effect value)

frame_call : (before : Effect) (counted : Bool) (mask : ℕ) → (with_frame before counted mask).call ≡ before.call
unfolding with_frame
frame_call before counted mask = pushes_call (frame before.regs counted mask) (record before { regs = with_aligned_stack before.regs })

pub may_push : (regs : Regs) → MayPush (back (sp regs) 200) 200 (registers_only regs)
may_push regs = record { written = tt; room = from_back (sp regs) }

pub may_push_again : (regs : Regs) (value : ℕ) → MayPush (back (sp regs) 200) 196 (push_effect regs value)
may_push_again regs value = push_near (back (sp regs) 200) 196 (registers_only regs) value (may_push regs)

-- an effect's bytes are near one start, and it makes no call
pub record IsLight (effect : Effect) : Type 0 where
  pub start : ℕ
  pub near : AreWrittenAt start effect.writes
  pub call : effect.call ≡ None

pub plain_light : (regs : Regs) → IsLight (registers_only regs)
plain_light regs = record { start = 0; near = tt; call = refl }

pub store_light : (regs : Regs) (size : ℕ) (place : Place) (value : ℕ) → size ≤ 1024 → IsLight (store_effect regs size place value)
unfolding store_effect
store_light regs size (places.Memory address) value l = record { start = address; near = bytes_written size address 0 address value (at_self address) (omega arith); call = refl }
store_light regs size _ value l = record { start = 0; near = tt; call = refl }

pub push_light : (regs : Regs) (value : ℕ) → IsLight (push_effect regs value)
unfolding push_onto
push_light regs value = record { start = back (sp regs) 200; near = (may_push_again regs value).written; call = refl }

pub call_covered : (memory : Answers) (base : ℕ) (before : Effect) (counted : Bool) (ap target : ℕ)
    → Covered memory base 1 (procedure_call before counted ap target)
unfolding procedure_call
call_covered memory base before counted ap target =
    covered_bind memory base 1 0 (number_at 2 target) _ (number_covered memory base 2 target (omega arith)) (λ mask e. go mask _)
  where
    go : (mask : ℕ) (b : Bool) → Covered memory base 0 (cond b (Refuses 4) (Gives (procedure_entry (with_frame before counted mask) ap target)))
    go mask true = covered_refuses memory base 0 4
    go mask false = covered_gives memory base 0 _

pub call_light : (start least : ℕ) (before : Effect) (counted : Bool) (ap target : ℕ) → 71 ≤ least → MayPush start least before → before.call ≡ None
    → AllGives IsLight (procedure_call before counted ap target)
unfolding procedure_call
call_light start least before counted ap target l h none =
    yields_bind (λ _. Unit {0}) IsLight (number_at 2 target) _ (yields_any (number_at 2 target)) (λ mask _. go mask _)
  where
    go : (mask : ℕ) (b : Bool) → AllGives IsLight (cond b (Refuses 4) (Gives (procedure_entry (with_frame before counted mask) ap target)))
    go mask true = tt
    go mask false = record { start = start; near = frame_near start least before counted mask l h; call = frame_call before counted mask ∙ none }
