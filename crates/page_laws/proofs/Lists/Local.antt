-- A step that changes one page and one frame.
use Rattle.std.proofs.Common.{◌≡◌, ◌≢◌, ◌⊎◌, inl, inr, ℕ, ◌+◌, ◌<◌, true, length, Option, Some, None, refl, sym, ap, ◌∙◌, subst, arith}
use Rattle.std.proofs.lemmas.Bool.{cases_eq}
use Rattle.std.proofs.lemmas.Option.{same_Some}
use Rattle.vm_facts.specs.declared.page.Page.{Page}
use Rattle.page_model.specs.Pages.{Slot, frame_of}
use Rattle.vm_facts.specs.Lists.{times}
use Rattle.page_model.specs.Placement.{Placement, slots_of, slot_of, state_of, mark_of, page_of, IsFrame, parts_of, flying}
use Rattle.page_model.specs.Ownership.{OwnsFrames, Each, IsMoving, IsListed, is_marked_dirty, may_be_dirty, seats, seated, seated_of}
use Rattle.page_laws.proofs.Lists.Pages.{page_cases}

-- the second placement is the first but for the page v and the frame f, which have to do with no other
pub record Local (p q : Placement) (v : Page) (f : ℕ) : Type 0 where
  pub sizes : (w : Page) → length (slots_of q w) ≡ length (slots_of p w)
  pub frames : length q.holds ≡ length p.holds
  pub frame_in : IsFrame p f
  pub other_slots : (w : Page) → w ≢ v → slot_of q w ≡ slot_of p w
  pub other_pages : (g : ℕ) → g ≢ f → page_of q g ≡ page_of p g
  pub other_free : (g : ℕ) → g ≢ f → times g q.free ≡ times g p.free
  pub other_flying : (g : ℕ) → g ≢ f → times g (flying (parts_of q.transfers)) ≡ times g (flying (parts_of p.transfers))
  pub old_frame : (g : ℕ) → frame_of (state_of p v) ≡ Some g → g ≡ f
  pub old_page : (w : Page) → page_of p f ≡ Some w → w ≡ v

-- the page v and the frame f belong together, or to nobody
abbrev pub Joined : Placement → Page → ℕ → Type 0
Joined q v f = ((frame_of (state_of q v) ≡ Some f) × (page_of q f ≡ Some v)) ⊎ ((frame_of (state_of q v) ≡ None) × (page_of q f ≡ None))

-- what has to be shown of the page v and the frame f alone
pub record Here (q : Placement) (v : Page) (f : ℕ) : Type 0 where
  pub joined : Joined q v f
  pub once : times f q.free + times f (flying (parts_of q.transfers)) + seated q f ≡ 1
  pub listed : 0 < times f q.free → page_of q f ≡ Some v → IsListed q f v
  pub moves : Each (IsMoving q) (parts_of q.transfers)
  pub dirty : is_marked_dirty v (mark_of q v) ≡ true → may_be_dirty (state_of q v) ≡ true

pub other_state : (p q : Placement) (v : Page) (f : ℕ) → Local p q v f → (w : Page) → w ≢ v → state_of q w ≡ state_of p w
other_state p q v f l w n = ap (λ (x : Slot). x.state) (l.other_slots w n)

pub other_mark : (p q : Placement) (v : Page) (f : ℕ) → Local p q v f → (w : Page) → w ≢ v → mark_of q w ≡ mark_of p w
other_mark p q v f l w n = ap (λ (x : Slot). x.mark) (l.other_slots w n)

seated_same : (p q : Placement) (g : ℕ) (o : Option Page) → page_of p g ≡ o → page_of q g ≡ o → times g q.free ≡ times g p.free
    → ((w : Page) → o ≡ Some w → state_of q w ≡ state_of p w) → seated q g ≡ seated p g
seated_same p q g None a b t s = ap (seated_of q g) b ∙ sym (ap (seated_of p g) a)
seated_same p q g (Some w) a b t s = ap (seated_of q g) b ∙ ap (λ (n : ℕ). seats n (state_of q w)) t ∙ ap (seats (times g p.free)) (s w refl) ∙ sym (ap (seated_of p g) a)

pub none_some : {A : Type 0} {C : Type 0} (a : A) → None ≡ Some a → C
none_some a e = absurd cc

module _ (p q : Placement) (v : Page) (f : ℕ) where
  not_tied : (g : ℕ) (w : Page) → OwnsFrames p → Local p q v f → g ≢ f → page_of p g ≡ Some w → w ≢ v
  not_tied g w o l n e same = n (l.old_frame g (subst (λ (x : Page). frame_of (state_of p x) ≡ Some g) same (o.named g w e)))

  frame_was : Local p q v f → (g : ℕ) → IsFrame q g → IsFrame p g
  frame_was l g b = (b.0, let s = l.frames in let k = b.1 in omega arith)

  frame_is : Local p q v f → (g : ℕ) → IsFrame p g → IsFrame q g
  frame_is l g b = (b.0, let s = l.frames in let k = b.1 in omega arith)

  once_of : OwnsFrames p → Local p q v f → Here q v f → (g : ℕ) → IsFrame q g → times g q.free + times g (flying (parts_of q.transfers)) + seated q g ≡ 1
  once_of o l h g b = elim (cases_eq g f) [
    | inl e ↦ subst (λ (x : ℕ). times x q.free + times x (flying (parts_of q.transfers)) + seated q x ≡ 1) (sym e) h.once
    | inr n ↦
        let same : seated q g ≡ seated p g = seated_same p q g (page_of p g) refl (l.other_pages g n) (l.other_free g n) (λ w e. other_state p q v f l w (not_tied g w o l n e)) in
        let fr : times g q.free ≡ times g p.free = l.other_free g n in
        let fl : times g (flying (parts_of q.transfers)) ≡ times g (flying (parts_of p.transfers)) = l.other_flying g n in
        let was : times g p.free + times g (flying (parts_of p.transfers)) + seated p g ≡ 1 = o.once g (frame_was l g b) in
        omega arith
  ]

  frames_of : OwnsFrames p → Local p q v f → (g : ℕ) → 0 < times g q.free → IsFrame q g
  frames_of o l g b = elim (cases_eq g f) [
    | inl e ↦ frame_is l g (subst (IsFrame p) (sym e) l.frame_in)
    | inr n ↦ frame_is l g (o.frames g (subst (λ (x : ℕ). 0 < x) (l.other_free g n) b))
  ]

names_of : (p q : Placement) (v : Page) (f : ℕ) → OwnsFrames p → Local p q v f → Here q v f → (w : Page) (g : ℕ) → frame_of (state_of q w) ≡ Some g
    → page_of q g ≡ Some w
names_of p q v f o l h w g e = elim (page_cases w v) [
  | inl s ↦
      let e2 : frame_of (state_of q v) ≡ Some g = subst (λ (x : Page). frame_of (state_of q x) ≡ Some g) s e in
      elim h.joined [
        | inl j ↦
            let a : f ≡ g = same_Some f g (sym j.0 ∙ e2) in
            subst (λ (x : ℕ). page_of q x ≡ Some w) a (subst (λ (x : Page). page_of q f ≡ Some x) (sym s) j.1)
        | inr j ↦ none_some g (sym j.0 ∙ e2)
      ]
  | inr n ↦
      let e2 : frame_of (state_of p w) ≡ Some g = ap frame_of (sym (other_state p q v f l w n)) ∙ e in
      let held : page_of p g ≡ Some w = o.names w g e2 in
      elim (cases_eq g f) [
        | inl s ↦ absurd (n (l.old_page w (subst (λ (x : ℕ). page_of p x ≡ Some w) s held)))
        | inr m ↦ l.other_pages g m ∙ held
      ]
]

named_of : (p q : Placement) (v : Page) (f : ℕ) → OwnsFrames p → Local p q v f → Here q v f → (g : ℕ) (w : Page) → page_of q g ≡ Some w
    → frame_of (state_of q w) ≡ Some g
named_of p q v f o l h g w e = elim (cases_eq g f) [
  | inl s ↦
      let e2 : page_of q f ≡ Some w = subst (λ (x : ℕ). page_of q x ≡ Some w) s e in
      elim h.joined [
        | inl j ↦
            let a : v ≡ w = same_Some v w (sym j.1 ∙ e2) in
            subst (λ (x : Page). frame_of (state_of q x) ≡ Some g) a (subst (λ (x : ℕ). frame_of (state_of q v) ≡ Some x) (sym s) j.0)
        | inr j ↦ none_some w (sym j.1 ∙ e2)
      ]
  | inr n ↦
      let e2 : page_of p g ≡ Some w = sym (l.other_pages g n) ∙ e in
      let m : w ≢ v = not_tied p q v f g w o l n e2 in
      ap frame_of (other_state p q v f l w m) ∙ o.named g w e2
]

listed_of : (p q : Placement) (v : Page) (f : ℕ) → OwnsFrames p → Local p q v f → Here q v f → (g : ℕ) (w : Page) → 0 < times g q.free
    → page_of q g ≡ Some w → IsListed q g w
listed_of p q v f o l h g w b e = elim (cases_eq g f) [
  | inl s ↦
      let e2 : page_of q f ≡ Some w = subst (λ (x : ℕ). page_of q x ≡ Some w) s e in
      elim h.joined [
        | inl j ↦
            let a : v ≡ w = same_Some v w (sym j.1 ∙ e2) in
            let b2 : 0 < times f q.free = subst (λ (x : ℕ). 0 < times x q.free) s b in
            subst (λ (x : Page). IsListed q g x) a (subst (λ (x : ℕ). IsListed q x v) (sym s) (h.listed b2 j.1))
        | inr j ↦ none_some w (sym j.1 ∙ e2)
      ]
  | inr n ↦
      let e2 : page_of p g ≡ Some w = sym (l.other_pages g n) ∙ e in
      let was : IsListed p g w = o.listed g w (subst (λ (x : ℕ). 0 < x) (l.other_free g n) b) e2 in
      let m : w ≢ v = not_tied p q v f g w o l n e2 in
      record { state = other_state p q v f l w m ∙ was.state; clean = ap (is_marked_dirty w) (other_mark p q v f l w m) ∙ was.clean }
]

dirty_of : (p q : Placement) (v : Page) (f : ℕ) → OwnsFrames p → Local p q v f → Here q v f → (w : Page) → is_marked_dirty w (mark_of q w) ≡ true
    → may_be_dirty (state_of q w) ≡ true
dirty_of p q v f o l h w e = elim (page_cases w v) [
  | inl s ↦ subst (λ (x : Page). may_be_dirty (state_of q x) ≡ true) (sym s) (h.dirty (subst (λ (x : Page). is_marked_dirty x (mark_of q x) ≡ true) s e))
  | inr n ↦ ap may_be_dirty (other_state p q v f l w n) ∙ o.dirty w (ap (is_marked_dirty w) (sym (other_mark p q v f l w n)) ∙ e)
]

-- A step that is right at one page and one frame keeps the whole.
pub local_owner : (p q : Placement) (v : Page) (f : ℕ) → OwnsFrames p → Local p q v f → Here q v f → OwnsFrames q
local_owner p q v f o l h = record {
  once = once_of p q v f o l h;
  frames = frames_of p q v f o l;
  names = names_of p q v f o l h;
  named = named_of p q v f o l h;
  listed = listed_of p q v f o l h;
  moves = h.moves;
  dirty = dirty_of p q v f o l h;
}
