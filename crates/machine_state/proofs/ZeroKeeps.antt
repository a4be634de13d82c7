-- The step of `Zero` keeps the flat states that the machine stands for, and every other page.
use Rattle.std.proofs.Common.{◌≡◌, ℕ, Bool, cond, List, [], ◌∷◌, map, Some, refl, sym, ap, ◌∙◌, subst}
use Rattle.vm_facts.specs.declared.page.Page.{Page}
use Rattle.page_model.specs.Pages.{frame_of}
use Rattle.flat_state.specs.PageNames.{same_page}
use Rattle.page_model.specs.Placement.{Due, Start, due_of_page}
use Rattle.page_model.specs.Place.{filled}
use Rattle.page_model.specs.Conditions.{CanEnter}
use Rattle.page_model.specs.PageBytes.{Bytes, SamePage, with_frame, bytes_in}
use Rattle.kernel_model.specs.Kernel.{Kernel, StartBytes, start_bytes, put_first, zero_step}
use Rattle.kernel_model.specs.Sound.{Sound, has_start}
use Rattle.kernel_model.specs.Coupled.{Coupled, beside_kernel}
use Rattle.flat_state.proofs.PageNames.{same_page_self}
use Rattle.table_steps.proofs.Moves.{zero_coupled, start_coupled, after_other}
use Rattle.table_steps.proofs.Others.{filled_same}
use Rattle.table_steps.specs.DueFill.{DueFill}
use Rattle.table_steps.specs.DueFill.TheVariants as fills
use Rattle.table_steps.specs.View.{due_shown, starts_of}
use Rattle.table_steps.specs.Due.{IsFirstStart}
use Rattle.table_steps.specs.Conditions.{CanZero, KeepsFlat, SameElsewhere}
use Rattle.machine_state.proofs.Copying.{head_is}

pub zero_keeps : (size : ℕ) (k : Kernel) (q : Page) (ds : List DueFill) → Sound size k → CanZero k.place q → k.place.due ≡ map due_shown ds
    → k.starts ≡ starts_of ds → KeepsFlat k (zero_step k q)
zero_keeps size k q ds so can due starts images image flat c = go ds due starts (subst (λ (x : List Due). IsFirstStart x q) due can.first)
  where
    enter : CanEnter k.place q
    enter = record { there = can.there; frameless = ap frame_of can.unfilled }

    go : (es : List DueFill) → k.place.due ≡ map due_shown es → k.starts ≡ starts_of es → IsFirstStart (map due_shown es) q → Coupled (zero_step k q) images image flat
    go [] d s f =
        zero_coupled size k images image flat q so (λ r e. ap (λ (ss : List StartBytes). has_start ss r) s) enter can.writable can.frame can.unfilled
        (ap (λ (x : List Due). due_of_page x q) d) can.zeros c
    go (fills.Start r bytes ∷ es) d s f = start_coupled size k images image flat q r so enter can.writable can.frame can.unfilled
        (ap (λ (x : List Due). due_of_page x q) d ∙ ap (λ (b : Bool). cond b (Some (Start r)) (due_of_page (map due_shown es) q)) (ap (λ (x : Page). same_page r x) (sym f) ∙ same_page_self r)) c
    go (fills.Copy child parent ∷ es) d s f = absurd f

pub zero_same : (size : ℕ) (k : Kernel) (q : Page) → Sound size k → CanZero k.place q → SameElsewhere k (zero_step k q) q
zero_same size k q so can images image flat w n =
    let h = head_is k.place.free can.frame in
    let f : ℕ = h.0 in
    let rest : List ℕ = h.1 in
    let e : k.place.free ≡ f ∷ rest = h.2 in
    let b : Bytes = beside_kernel k images image flat in
    let s : SamePage k.place (filled k.place q) b (with_frame b f (start_bytes k.starts q)) w = filled_same k.place q f rest b (start_bytes k.starts q) w so.owner.frames e n in
    record {
      frames = λ g j x y. subst (λ (fs : List ℕ). bytes_in (record b { frames = put_first fs k.frames (start_bytes k.starts q) }) j ≡ bytes_in b g) (sym e) (s.frames g j x y);
      swap = refl;
      start = after_other k.starts q w n;
    }
