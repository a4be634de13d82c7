-- Where a signal comes from.
use Rattle.std.proofs.Common.{◌≡◌, ◌∙◌, ℕ, ◌∷◌, List, [], Some, None, Err, inl, inr, ◌⊎◌, refl, ap, sym, subst}
use Rattle.vm_facts.specs.Answers.{Answers}
use Rattle.vm_facts.specs.declared.memory.ByteRead.{ByteRead}
use Rattle.vm_facts.specs.declared.memory.ByteRead.TheVariants as bytes
use Rattle.vm_facts.specs.declared.memory.MayWrite.{MayWrite}
use Rattle.vm_facts.specs.declared.memory.MayWrite.TheVariants as tests
use Rattle.vm_facts.specs.declared.regs.Regs.{Regs}
use Rattle.user_vax.specs.declared.refused.Refused.TheVariants.{Signal}
use Rattle.user_vax.specs.Signals.{sigill, sigfpe, sigbus, sigsegv}
use Rattle.user_vax.specs.Program.{Program, Gives, Refuses, Reads, Tests, run, after_read, after_test, ByteAccess, ReadOf, TestOf, accesses, rest_of_read, rest_of_test}
use Rattle.user_vax.specs.Laws.{refusal, read_refusal, test_refusal, SignalFrom}
use Rattle.user_vax.specs.Instruction.{instruction}
use Rattle.user_vax.proofs.OwnSignals.{HasOwnSignals, instruction_signals}

later : (memory : Answers) (access : ByteAccess) (list : List ByteAccess) (number : ℕ) → refusal memory access ≡ None → SignalFrom memory list number
    → SignalFrom memory (access ∷ list) number
later memory access list number here (inl last) =
    inl (last.0, (access ∷ last.1.0, last.1.1, ap (λ (l : List ByteAccess). access ∷ l) last.1.2, (here, last.1.3), last.1.4))
later memory access list number here (inr all) = inr (all.0, (here, all.1))

signal_read : {A : Type 0} (memory : Answers) (address : ℕ) (next : ℕ → Program A) (number : ℕ)
    → ((byte : ℕ) → run memory (next byte) ≡ Err (Signal number) → SignalFrom memory (accesses memory (next byte)) number) → (answer : ByteRead)
    → memory.read address ≡ answer → after_read answer address (λ byte. run memory (next byte)) ≡ Err (Signal number)
    → SignalFrom memory (ReadOf address ∷ rest_of_read answer (λ byte. accesses memory (next byte))) number
signal_read memory address next number more (bytes.Is byte) e h = later memory (ReadOf address) _ number (ap (λ answer. read_refusal answer address) e) (more byte h)
signal_read memory address next number more bytes.Miss e h = absurd cc
signal_read memory address next number more bytes.Below e h = absurd cc
signal_read memory address next number more bytes.Outside e h =
    let same : sigsegv ≡ number = cc in
    inl (inr (sym same), ([], ReadOf address, refl, tt, ap (λ answer. read_refusal answer address) e ∙ ap (λ n. Some (Signal n)) same))

signal_test : {A : Type 0} (memory : Answers) (address : ℕ) (next : Program A) (number : ℕ)
    → (run memory next ≡ Err (Signal number) → SignalFrom memory (accesses memory next) number) → (answer : MayWrite)
    → memory.may_write address ≡ answer → after_test answer address (run memory next) ≡ Err (Signal number)
    → SignalFrom memory (TestOf address ∷ rest_of_test answer (accesses memory next)) number
signal_test memory address next number more tests.May e h = later memory (TestOf address) _ number (ap (λ answer. test_refusal answer address) e) (more h)
signal_test memory address next number more tests.Miss e h = absurd cc
signal_test memory address next number more tests.Below e h = absurd cc
signal_test memory address next number more tests.Text e h =
    let same : sigbus ≡ number = cc in
    inl (inl (sym same), ([], TestOf address, refl, tt, ap (λ answer. test_refusal answer address) e ∙ ap (λ n. Some (Signal n)) same))
signal_test memory address next number more tests.Outside e h =
    let same : sigsegv ≡ number = cc in
    inl (inr (sym same), ([], TestOf address, refl, tt, ap (λ answer. test_refusal answer address) e ∙ ap (λ n. Some (Signal n)) same))

from_signal : {A : Type 0} (memory : Answers) (p : Program A) (number : ℕ) → HasOwnSignals p → run memory p ≡ Err (Signal number)
    → SignalFrom memory (accesses memory p) number
from_signal memory (Gives x) number own h = absurd cc
from_signal memory (Refuses signal) number own h =
    let same : signal ≡ number = cc in inr (subst (λ (n : ℕ). (n ≡ sigill) ⊎ (n ≡ sigfpe)) same own, tt)
from_signal memory (Reads address next) number own h =
    signal_read memory address next number (λ byte. from_signal memory (next byte) number (own byte)) (memory.read address) refl h
from_signal memory (Tests address next) number own h =
    signal_test memory address next number (from_signal memory next number own) (memory.may_write address) refl h

pub instruction_signal : (memory : Answers) (regs : Regs) (number : ℕ) → run memory (instruction regs) ≡ Err (Signal number)
    → SignalFrom memory (accesses memory (instruction regs)) number
instruction_signal memory regs number h = from_signal memory (instruction regs) number (instruction_signals regs) h
