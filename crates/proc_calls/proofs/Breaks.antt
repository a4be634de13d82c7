-- A break of the flat machine, by the sizes of the machine that stands for it.
use Rattle.std.proofs.Common.{◌≡◌, ℕ, ◌-◌, ◌*◌, ◌/◌, List, length, Option, Some, Result, Ok, Err, refl, sym, ap, ◌∙◌, subst, arith}
use Rattle.std.specs.Prelude.{nat_le}
use Rattle.vm_facts.specs.Answers.{Answers}
use Rattle.vm_facts.specs.declared.page.Page.TheVariants as pages
use Rattle.vm_facts.specs.declared.regs.Regs.{Regs}
use Rattle.aout_image.specs.Image.{pages_for}
use Rattle.user_vax.specs.Program.{Program, Gives, run}
use Rattle.user_vax.specs.declared.refused.Refused.{Refused}
use Rattle.user_vax.proofs.Runs.{then, run_bind}
use Rattle.flat_state.specs.Space.{Space}
use Rattle.flat_state.specs.Flat.{FlatState, NamedImage, Process, image_numbered, spaces_of}
use Rattle.flat_model.specs.Calls.{argument, break_by, break_reply, data_limit, pages_up_to, reply_of, stack_pages_of}
use Rattle.flat_model.specs.declared.calls.Reply.{Reply}
use Rattle.flat_model.specs.declared.calls.SystemCall.TheVariants.{Break}
use Rattle.page_model.specs.Pages.{SpacePages, numbered, stack_in}
use Rattle.page_model.specs.Place.{stack_count}
use Rattle.page_model.specs.Placement.{space_number, image_in, slots_of}
use Rattle.kernel_model.specs.Kernel.{Kernel}
use Rattle.kernel_model.specs.Sound.{TextFits}
use Rattle.kernel_model.specs.Coupled.{SameTables, Fits, image_text}
use Rattle.machine_state.proofs.FlatMemory.{IsPaged, paged}
use Rattle.machine_state.specs.UserMemory.{text_len}
use Rattle.fault_fill.specs.Growth.{space_of_pid}
use Rattle.proc_calls.specs.Sizing.{break_at, break_read, pages_to}

whole_pages : (n bytes : ℕ) → bytes ≡ 1024 * n → n ≡ bytes / 1024
whole_pages n bytes e = omega (arith, e)

module _ (images : List NamedImage) (k : Kernel) (flat : FlatState) (x : Space) (tables : SameTables k flat) (fits : TextFits images k.place)
    (own : numbered (λ (s : Space). s.sid) x.sid (spaces_of flat) ≡ Some x) (text : x.text_bytes ≡ image_text (image_numbered images x.image)) where
  there : IsPaged k x
  there = paged k x (numbered space_number x.sid k.place.spaces) refl (subst (λ (o : Option Space). Fits o (numbered space_number x.sid k.place.spaces)) own (tables.spaces x.sid))

  text_same : text_len k.place x.sid ≡ length x.text_bytes
  text_same =
      ap (λ (n : ℕ). 1024 * length (slots_of k.place (pages.Text n 0))) (ap image_in there.there ∙ there.sized.image)
      ∙ sym (fits x.image) ∙ sym (ap (λ (bs : List ℕ). length bs) text)

  stack_same : stack_count k.place x.sid ≡ stack_pages_of x
  stack_same =
      ap (λ (o : Option SpacePages). length (stack_in o)) there.there
      ∙ whole_pages (length there.pages.stack_pages) (length x.stack_bytes) there.sized.stack_size

  module _ (pid : ℕ) (regs : Regs) (held : space_of_pid k pid ≡ x.sid) where
    pages_same : (address : ℕ) → pages_up_to x address ≡ pages_to k pid address
    pages_same address = sym (ap (λ (n : ℕ). pages_for (address - n)) (ap (text_len k.place) held ∙ text_same))

    at_address : (address : ℕ) → break_by (nat_le (pages_up_to x address) data_limit) regs (pages_up_to x address) (stack_pages_of x) ≡ break_at k pid regs (pages_to k pid address)
    at_address address =
        ap (λ (n : ℕ). break_by (nat_le n data_limit) regs n (stack_pages_of x)) (pages_same address)
        ∙ sym (ap (break_by (nat_le (pages_to k pid address) data_limit) regs (pages_to k pid address)) (ap (stack_count k.place) held ∙ stack_same))

    by_argument : (r : Result ℕ Refused)
        → then r (λ (address : ℕ). Ok (break_by (nat_le (pages_up_to x address) data_limit) regs (pages_up_to x address) (stack_pages_of x))) ≡ break_read k pid regs r
    by_argument (Ok address) = ap (λ (reply : Reply). let r : Result Reply Refused = Ok reply in r) (at_address address)
    by_argument (Err refused) = refl

    pub break_flat : (p : Process) (memory : Answers) → run memory (reply_of images flat p x Break regs) ≡ break_read k pid regs (run memory (argument regs 1))
    unfolding reply_of break_reply
    break_flat p memory =
        run_bind memory (argument regs 1)
        (λ (address : ℕ). let q : Program Reply = Gives (break_by (nat_le (pages_up_to x address) data_limit) regs (pages_up_to x address) (stack_pages_of x)) in q)
        ∙ by_argument (run memory (argument regs 1))
