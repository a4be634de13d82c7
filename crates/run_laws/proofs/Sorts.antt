-- What each next unit is to a machine with bytes: a paging entry or a note, a process that comes in or goes out, or a
-- process's own entry.
use Rattle.std.proofs.Common.{◌≡◌, inl, inr, ℕ, true, false, [], Some, None, refl, sym, ap, ◌∙◌, subst}
use Rattle.vm_facts.specs.declared.entry.Entry.{Entry}
use Rattle.vm_facts.specs.declared.entry.Entry.TheVariants as entries
use Rattle.flat_state.specs.Flat.{Inputs, process_of}
use Rattle.page_model.specs.Place.{space_of_process}
use Rattle.page_model.specs.Serve.{serve_entry}
use Rattle.page_model.specs.Swapper.{is_out}
use Rattle.kernel_model.specs.Stands.{holds_some}
use Rattle.page_laws.proofs.Swapper.PuttingOut.{unit_case}
use Rattle.page_laws.proofs.Moves.Units.{unit_is}
use Rattle.run_model.specs.declared.mark.Mark.{Mark}
use Rattle.run_model.specs.declared.mark.Mark.TheVariants as marks
use Rattle.flat_model.specs.Run.{process_of_entry}
use Rattle.run_model.specs.State.{State}
use Rattle.run_model.specs.Wanted.{wanted, locked}
use Rattle.run_model.specs.After.{after}
use Rattle.run_model.specs.Next.{fill_unit, move_unit, owners_entry}
use Rattle.run_model.specs.Kinds.{Comes, Kind, Fills, Brings, Copies, ServesWanted, Acts, ProcessComes, Interrupts, HandsMove, ProcessGoes, Notes, Begins}
use Rattle.run_laws.specs.Standing.{MarkStands}
use Rattle.run_laws.proofs.Plain.{IsPaging, paging_plain, serve_paging, zero_paging, copy_paging, move_paging}
use Rattle.run_laws.proofs.Settling.{IsMark, begins_is}
use Rattle.run_laws.proofs.Flows.{Acted, Settles, Refuses, Steps, acted, steps_shape, out_of, out_after, refused_after, noted}
use Rattle.run_laws.proofs.Acts.{Stepped}
use Rattle.run_laws.proofs.CoupledKinds.{Stays}

-- bytes that are written out, or pieces that are refused
abbrev pub IsSaying : Entry → Type 0
IsSaying (entries.Out p bytes) = Unit {0}
IsSaying (entries.Refused p) = Unit {0}
IsSaying e = ⊥

pub data Sort (A : Inputs) (s : State) (u : Entry) : Type 0 where
  Pages : process_of_entry u ≡ None → Stays u → Sort A s u
  GoesIn : (pid : ℕ) → u ≡ entries.SwapIn pid → is_out s.place pid ≡ true → Sort A s u
  GoesOff : (pid : ℕ) → u ≡ entries.SwapOut pid → is_out s.place pid ≡ false → holds_some (process_of s.point.flat pid) ≡ true → Sort A s u
  Says : after A s u ≡ noted s u → IsSaying u → Sort A s u
  Makes : (h : Stepped A s u) → wanted A s ≡ None → Sort A s u

paging_keeps : (u : Entry) → IsPaging u → Stays u
paging_keeps (entries.SwapOut p) k = absurd k
paging_keeps (entries.SwapIn p) k = absurd k
paging_keeps _ k = tt

pages : (A : Inputs) (s : State) (u e : Entry) → u ≡ e → IsPaging e → Sort A s u
pages A s u e i k = subst (Sort A s) (sym i) (Pages (paging_plain e k) (paging_keeps e k))

comes_out : (A : Inputs) (s : State) (pid : ℕ) → MarkStands s s.mark → Comes A s s.mark pid → is_out s.place pid ≡ true
comes_out A s pid m c = go s.mark m c
  where
    go : (x : Mark) → MarkStands s x → Comes A s x pid → is_out s.place pid ≡ true
    go (marks.BringIn p) m c = ap (is_out s.place) (sym c) ∙ m.2
    go (marks.Turn p since) m c = c.2
    go _ m c = absurd c

pub sort_of : (A : Inputs) (s : State) (u : Entry) → MarkStands s s.mark → Kind A s u → Sort A s u
sort_of A s u m (Fills q due e i) = pages A s u (fill_unit s.place (entries.Zero q)) i (zero_paging s.place q)
sort_of A s u m (Brings q parent due e i) = pages A s u (serve_entry s.place parent) (unit_is s.place parent true u i).1 (serve_paging s.place parent)
sort_of A s u m (Copies q parent due e j i) = pages A s u (fill_unit s.place (entries.Copy q)) i (copy_paging s.place q)
sort_of A s u m (ServesWanted pid now q r w i) = pages A s u (serve_entry s.place q) (unit_is s.place q now u i).1 (serve_paging s.place q)
sort_of A s u m (Acts pid now r w a) = go (acted A s pid u a)
  where
    go : Acted A s pid u → Sort A s u
    go (Settles e) = pages A s u entries.Done e tt
    go (Refuses e) = subst (Sort A s) (sym e) (Says (refused_after A s pid) tt)
    go (Steps f g e) = elim (steps_shape A s.point pid u e) [
      | inl ends ↦ Makes (record { pid = pid; now = now; runs = r; ends = ends; unrefused = f; unsettling = g; next = e }) w
      | inr out ↦ subst (Sort A s) (sym out.1) (Says (out_after A s pid pid out.0 (out_of A s.point pid pid out.0 (e ∙ ap (λ (y : Entry). Some y) out.1))) tt)
    ]
sort_of A s u m (ProcessComes pid e c i) = GoesIn pid i (comes_out A s pid m c)
sort_of A s u m (Interrupts e j i) = pages A s u entries.Done i tt
sort_of A s u m (HandsMove count e j l w i) = pages A s u (move_unit s.place (locked A s)) i (move_paging s.place (locked A s))
sort_of A s u m (ProcessGoes pid e j i) =
    let sid : ℕ = space_of_process (process_of s.point.flat pid) in
    let stands : (s.place.due ≡ []) × (holds_some (process_of s.point.flat pid) ≡ true) × (is_out s.place pid ≡ false) = subst (MarkStands s) j m in
    subst (Sort A s) (sym i) (unit_case (Sort A s) s.place pid sid (λ t ts h. Pages refl tt) (λ v h y z. Pages refl tt) (λ h y. GoesOff pid refl stands.2 stands.1))
sort_of A s u m (Notes e j i) = pages A s u (owners_entry s) i tt
sort_of A s u m (Begins e j i) = begins_is (Sort A s) A s u i begun
  where
    begun : (x : Entry) → IsMark x → Sort A s x
    begun (entries.Event line) k = Pages refl tt
    begun (entries.Turn p) k = Pages refl tt
    begun _ k = absurd k
