-- A step that changes one page and one frame keeps the flat memory, where it does so at that page.
use Rattle.std.proofs.Common.{◌≡◌, ◌≢◌, ◌⊎◌, inl, inr, ℕ, Bool, List, [], Option, Some, None, refl, sym, ap, ◌∙◌, subst, arith}
use Rattle.vm_facts.specs.declared.page.Page.{Page}
use Rattle.vm_facts.specs.declared.page.Page.TheVariants.{Text}
use Rattle.vm_facts.specs.declared.page.PageState.{PageState}
use Rattle.vm_facts.specs.declared.page.PageState.TheVariants.{Unfilled, Valid, Invalid, Coming, Going, OnSwap}
use Rattle.page_model.specs.Pages.{Slot, Filling, Zeros, OfImage, frame_of, is_dirty_by}
use Rattle.page_model.specs.Placement.{Placement, Errand, Reads, FromSwap, FromFile, Due, Start, CopyOf, filling_by, slot_of, state_of, mark_of, is_dirty, filling_of, page_of, errand_at, due_of_page, parts_of, IsThere}
use Rattle.page_model.specs.Ownership.{OwnsFrames}
use Rattle.page_model.specs.PageBytes.{Bytes, bytes_in, IsInFrame, KeepsUnfilled, IsUnsaved, KeepsComing, IfSaved, KeepsBy, Keeps, CouplesPages}
use Rattle.page_laws.proofs.Lists.Pages.{page_cases}
use Rattle.page_laws.proofs.Lists.Local.{Local}

-- what stands beside a placement stays the same but for one page and one frame
pub record Beside (p q : Placement) (v : Page) (f : ℕ) (b c : Bytes) : Type 0 where
  pub frames : (g : ℕ) → g ≢ f → bytes_in c g ≡ bytes_in b g
  pub swap : (w : Page) → w ≢ v → c.swap w ≡ b.swap w
  pub file : (w : Page) → c.file w ≡ b.file w
  pub start : (w : Page) → w ≢ v → c.start w ≡ b.start w
  pub memory : (w : Page) → w ≢ v → c.memory w ≡ b.memory w
  -- text is never written, and no page that is written is to be copied
  pub text : (image n : ℕ) → c.memory (Text image n) ≡ b.memory (Text image n)
  pub copied : ((w : Page) → c.memory w ≡ b.memory w) ⊎ (q.due ≡ [])
  pub due : (w : Page) → w ≢ v → due_of_page q.due w ≡ due_of_page p.due w
  pub text_due : (image n : ℕ) → due_of_page p.due (Text image n) ≡ None → due_of_page q.due (Text image n) ≡ None
  pub errands : (g : ℕ) → g ≢ f → errand_at (parts_of q.transfers) g ≡ errand_at (parts_of p.transfers) g

-- nothing is due of a page that is copied from another
abbrev pub NoCopy : Option Due → Type 0
NoCopy None = Unit {0}
NoCopy (Some (Start r)) = Unit {0}
NoCopy (Some (CopyOf r parent)) = ⊥

unfilled_same : (b c : Bytes) (w : Page) (d : Option Due) (x : Filling) → c.file w ≡ b.file w → c.start w ≡ b.start w → c.memory w ≡ b.memory w
    → ((parent : Page) → c.memory parent ≡ b.memory parent) ⊎ NoCopy d → KeepsUnfilled b w d x → KeepsUnfilled c w d x
unfilled_same b c w None Zeros fi st me cp k = k ∙ sym me
unfilled_same b c w None OfImage fi st me cp k = fi ∙ k ∙ sym me
unfilled_same b c w (Some (Start r)) x fi st me cp k = st ∙ k ∙ sym me
unfilled_same b c w (Some (CopyOf r parent)) x fi st me (inl h) k = h parent ∙ k ∙ sym me
unfilled_same b c w (Some (CopyOf r parent)) x fi st me (inr h) k = absurd h

coming_same : (b c : Bytes) (w : Page) (m : Bool) (e : Option Errand) → c.file w ≡ b.file w → c.swap w ≡ b.swap w → c.memory w ≡ b.memory w
    → KeepsComing b w m e → KeepsComing c w m e
coming_same b c w m (Some (Reads FromSwap d)) fi sw me k = sw ∙ k ∙ sym me
coming_same b c w m (Some (Reads FromFile d)) fi sw me k = (fi ∙ k.0 ∙ sym me, k.1)
coming_same b c w m _ fi sw me k = k

-- what a page was, and what stands beside it, it still is
pub record Unmoved (p q : Placement) (b c : Bytes) (w : Page) : Type 0 where
  pub slot : slot_of q w ≡ slot_of p w
  pub due : due_of_page q.due w ≡ due_of_page p.due w
  pub frames : (g : ℕ) → frame_of (state_of p w) ≡ Some g
      → (bytes_in c g ≡ bytes_in b g) × (errand_at (parts_of q.transfers) g ≡ errand_at (parts_of p.transfers) g)
  pub swap : c.swap w ≡ b.swap w
  pub file : c.file w ≡ b.file w
  pub start : c.start w ≡ b.start w
  pub memory : c.memory w ≡ b.memory w
  pub copied : ((parent : Page) → c.memory parent ≡ b.memory parent) ⊎ NoCopy (due_of_page q.due w)

module _ (p q : Placement) (b c : Bytes) (w : Page) where
  mark_same : Unmoved p q b c w → mark_of q w ≡ mark_of p w
  mark_same u = ap (λ (x : Slot). x.mark) u.slot

  filling_same : Unmoved p q b c w → filling_of q w ≡ filling_of p w
  filling_same u = ap (λ (x : Slot). filling_by w x.filling) u.slot

  in_frame_same : (f : ℕ) → Unmoved p q b c w → frame_of (state_of p w) ≡ Some f → IsInFrame b (is_dirty p w) f w → IsInFrame c (is_dirty q w) f w
  in_frame_same f u e k = record { here = (u.frames f e).0 ∙ k.here ∙ sym u.memory; there = λ h. u.swap ∙ k.there (sym (ap (is_dirty_by w) (mark_same u)) ∙ h) ∙ sym u.memory }

saved_same : (b c : Bytes) (w : Page) (m : Bool) → c.swap w ≡ b.swap w → c.memory w ≡ b.memory w → IfSaved b w m → IfSaved c w m
saved_same b c (Text image v) m s e k = λ h. s ∙ k h ∙ sym e
saved_same b c _ m s e k = tt

keeps_same : (p q : Placement) (b c : Bytes) (w : Page) (s : PageState) → state_of p w ≡ s → Unmoved p q b c w → KeepsBy p b w s → KeepsBy q c w s
keeps_same p q b c w Unfilled e u k = (
  unfilled_same b c w (due_of_page q.due w) (filling_of q w) u.file u.start u.memory u.copied
      (subst (λ (d : Option Due). KeepsUnfilled b w d (filling_of q w)) (sym u.due) (subst (KeepsUnfilled b w (due_of_page p.due w)) (sym (filling_same p q b c w u)) k.0)),
  subst (IsUnsaved w) (sym (mark_same p q b c w u)) k.1,
)
keeps_same p q b c w (Valid f) e u k = in_frame_same p q b c w f u (ap frame_of e) k
keeps_same p q b c w (Invalid f) e u k = in_frame_same p q b c w f u (ap frame_of e) k
keeps_same p q b c w (Coming f) e u k = coming_same b c w (mark_of q w) (errand_at (parts_of q.transfers) f) u.file u.swap u.memory
    (subst (KeepsComing b w (mark_of q w)) (sym (u.frames f (ap frame_of e)).1) (subst (λ (m : Bool). KeepsComing b w m (errand_at (parts_of p.transfers) f)) (sym (mark_same p q b c w u)) k))
keeps_same p q b c w (Going f) e u k = ((u.frames f (ap frame_of e)).0 ∙ k.0 ∙ sym u.memory, subst (IfSaved c w) (sym (mark_same p q b c w u)) (saved_same b c w (mark_of p w) u.swap u.memory k.1))
keeps_same p q b c w OnSwap e u k = u.swap ∙ k ∙ sym u.memory

pub unmoved_keeps : (p q : Placement) (b c : Bytes) (w : Page) → Unmoved p q b c w → Keeps p b w → Keeps q c w
unmoved_keeps p q b c w u k = subst (KeepsBy q c w) (sym (ap (λ (x : Slot). x.state) u.slot)) (keeps_same p q b c w (state_of p w) refl u k)

pub frame_apart : (p q : Placement) (v : Page) (f : ℕ) → OwnsFrames p → Local p q v f → (w : Page) → w ≢ v → (g : ℕ) → frame_of (state_of p w) ≡ Some g → g ≢ f
frame_apart p q v f o l w n g e same = n (l.old_page w (subst (λ (u : ℕ). page_of p u ≡ Some w) same (o.names w g e)))

unmoved : (p q : Placement) (v : Page) (f : ℕ) (b c : Bytes) → OwnsFrames p → Local p q v f → Beside p q v f b c → (w : Page) → w ≢ v → Unmoved p q b c w
unmoved p q v f b c o l s w n = record {
  slot = l.other_slots w n;
  due = s.due w n;
  frames = λ g e. let a = frame_apart p q v f o l w n g e in (s.frames g a, s.errands g a);
  swap = s.swap w n;
  file = s.file w;
  start = s.start w n;
  memory = s.memory w n;
  copied = elim s.copied [
    | inl h ↦ inl h
    | inr h ↦ inr (subst (λ (ds : List Due). NoCopy (due_of_page ds w)) (sym h) tt)
  ];
}

-- A step that is right at one page keeps the whole.
pub local_coupled : (p q : Placement) (v : Page) (f : ℕ) (b c : Bytes) → OwnsFrames p → Local p q v f → Beside p q v f b c
    → CouplesPages p b → (IsThere q v → Keeps q c v) → CouplesPages q c
local_coupled p q v f b c o l s k here = record {
  each = λ w there. elim (page_cases w v) [
    | inl e ↦ subst (λ (u : Page). Keeps q c u) (sym e) (here (subst (λ (u : Page). IsThere q u) e there))
    | inr n ↦ unmoved_keeps p q b c w (unmoved p q v f b c o l s w n) (k.each w (let h = l.sizes w in omega arith))
  ];
  text = λ image v. s.file (Text image v) ∙ k.text image v ∙ sym (s.text image v);
  text_due = λ image v. s.text_due image v (k.text_due image v);
}
