-- A change of a process keeps the whole machine sound, where the pieces that it takes were found before.
use Rattle.std.proofs.Common.{◌≡◌, ◌≢◌, inl, inr, ℕ, zero, suc, ◌*◌, ◌≤◌, ◌==◌, Bool, true, false, not, ◌&&◌, ◌||◌, cond, List, [], ◌∷◌, ◌++◌, length, map, filter, drop, Option, Some, None, refl, sym, ap, ◌∙◌, subst}
use Rattle.std.proofs.lemmas.Bool.{cases_eq, eqb-true, eq-eqb, ne_eqb}
use Rattle.vm_facts.specs.declared.page.Page.{Page}
use Rattle.vm_facts.specs.declared.page.Page.TheVariants.{Text}
use Rattle.vm_facts.specs.declared.page.PageState.{PageState}
use Rattle.vm_facts.specs.declared.page.PageState.TheVariants.{Unfilled, Valid, Invalid, Coming, Going, OnSwap}
use Rattle.vm_facts.specs.declared.regs.Regs.{Regs}
use Rattle.vm_facts.specs.declared.entry.Entry.{Entry}
use Rattle.swap_book.specs.Book.{IsBook}
use Rattle.swap_book.specs.declared.Owner.{Owner}
use Rattle.swap_book.specs.declared.Owner.TheVariants as owners
use Rattle.swap_book.specs.Owners.{u_pieces}
use Rattle.swap_book.specs.Chunks.{pieces}
use Rattle.swap_book.specs.Holdings.{Holdings, lengths, kept}
use Rattle.flat_state.specs.declared.change.Change.{Change}
use Rattle.flat_state.specs.declared.change.Change.TheVariants.{Resize, Fork, Lend, Exec, Reap, Sleep, End}
use Rattle.page_model.specs.Pages.{numbered, frame_of}
use Rattle.page_model.specs.Placement.{Placement, Transfer, slots_of, state_of, sharers, image_of}
use Rattle.page_model.specs.Moves.{drop_at, drop_page, drop_all, leave_by, leave_page, leave_all, listed}
use Rattle.page_model.specs.Place.{Changing, data_count, stack_count, resize, enter_image, remove_space, pages_of_space, pages_of_text, leave_text, leave_text_by, give_up, give_up_unless, place_change, facts_numbered}
use Rattle.page_model.specs.Conditions.{CanChange, MayForget}
use Rattle.page_model.specs.Ownership.{OneOwner, u_blocks}
use Rattle.kernel_model.specs.Kernel.{Life, New, HoldsSpace, LendsSpace, Ended, Proc, Kernel}
use Rattle.kernel_model.specs.Sound.{Sound, has_life, lives, lives_in}
use Rattle.kernel_model.specs.ChangeStep.{changing_of, with_proc, without_proc, child_proc, is_ended, orphaned_procs, woken_procs, left_procs, procs_after, holdings_after, given_back_unless, space_of_life, life_of_proc, gave_back, change_by, change_if, change_step}
use Rattle.kernel_model.specs.Taken.{needed, MayReap, MayChange}
use Rattle.page_laws.proofs.Lists.Frames.{length_set_frame}
use Rattle.page_laws.proofs.Ownership.Entries.{place_change_owner}
use Rattle.page_laws.proofs.Ownership.Changes.{dropped_pages}
use Rattle.page_laws.proofs.Blocks.Aside.{one_owner}
use Rattle.page_laws.proofs.Blocks.Changes.{place_change_aside}
use Rattle.page_laws.proofs.Ends.Hands.{SameHands, hands_self, hands_both, hands_stand}
use Rattle.kernel_laws.proofs.Sound.Steps.{proc_number}
use Rattle.kernel_laws.proofs.Pieces.GivenBack.{after_apart, FitsBoth, grows_fits, owns_from, own_left, other_left, unless_u, u_some, both_pieces, both_while, both_u}
use Rattle.kernel_laws.proofs.Pieces.Sizes.{change_fits, change_texts, grows_self}
use Rattle.aout_image.specs.declared.Image.{Image}

-- Who lives.

abbrev pub find : ℕ → List Proc → Option Proc
find n ps = numbered (λ (x : Proc). x.pid) n ps

-- a map that keeps numbers, and under this number lives
pub map_alive : (f : Proc → Proc) (ps : List Proc) (n : ℕ) → ((q : Proc) → (f q).pid ≡ q.pid)
    → ((q : Proc) → q.pid ≡ n → has_life q.life ≡ true → has_life (f q).life ≡ true) → lives ps n ≡ true → lives (map f ps) n ≡ true
map_alive f [] n k h e = e
map_alive f (q ∷ qs) n k h e = go (q.pid == n) refl e (map_alive f qs n k h)
  where
    go : (b : Bool) → (q.pid == n) ≡ b → lives_in (cond b (Some q) (find n qs)) ≡ true → (lives qs n ≡ true → lives (map f qs) n ≡ true) → lives (f q ∷ map f qs) n ≡ true
    go true x l ih = ap (λ (b : Bool). lives_in (cond b (Some (f q)) (find n (map f qs)))) (ap (λ (m : ℕ). m == n) (k q) ∙ x) ∙ h q (eqb-true q.pid n x) l
    go false x l ih = ap (λ (b : Bool). lives_in (cond b (Some (f q)) (find n (map f qs)))) (ap (λ (m : ℕ). m == n) (k q) ∙ x) ∙ ih l

map_dead : (f : Proc → Proc) (ps : List Proc) (n : ℕ) → ((q : Proc) → (f q).pid ≡ q.pid) → ((q : Proc) → q.pid ≡ n → has_life (f q).life ≡ false)
    → lives (map f ps) n ≡ false
map_dead f [] n k h = refl
map_dead f (q ∷ qs) n k h = go (q.pid == n) refl (map_dead f qs n k h)
  where
    go : (b : Bool) → (q.pid == n) ≡ b → lives (map f qs) n ≡ false → lives (f q ∷ map f qs) n ≡ false
    go true x ih = ap (λ (b : Bool). lives_in (cond b (Some (f q)) (find n (map f qs)))) (ap (λ (m : ℕ). m == n) (k q) ∙ x) ∙ h q (eqb-true q.pid n x)
    go false x ih = ap (λ (b : Bool). lives_in (cond b (Some (f q)) (find n (map f qs)))) (ap (λ (m : ℕ). m == n) (k q) ∙ x) ∙ ih

pub map_lives : (f : Proc → Proc) (ps : List Proc) (n : ℕ) → ((q : Proc) → (f q).pid ≡ q.pid) → ((q : Proc) → has_life (f q).life ≡ has_life q.life)
    → lives (map f ps) n ≡ lives ps n
map_lives f [] n k h = refl
map_lives f (q ∷ qs) n k h = ap (λ (m : ℕ). lives_in (cond (m == n) (Some (f q)) (find n (map f qs)))) (k q) ∙ go (q.pid == n) (map_lives f qs n k h)
  where
    go : (b : Bool) → lives (map f qs) n ≡ lives qs n → lives_in (cond b (Some (f q)) (find n (map f qs))) ≡ lives_in (cond b (Some q) (find n qs))
    go true ih = h q
    go false ih = ih

pub filter_alive : (test : Proc → Bool) (ps : List Proc) (n : ℕ) → ((q : Proc) → q.pid ≡ n → has_life q.life ≡ true → test q ≡ true)
    → lives ps n ≡ true → lives (filter test ps) n ≡ true
filter_alive test [] n h e = e
filter_alive test (q ∷ qs) n h e = go (test q) (q.pid == n) refl refl e (filter_alive test qs n h)
  where
    go : (b c : Bool) → test q ≡ b → (q.pid == n) ≡ c → lives_in (cond c (Some q) (find n qs)) ≡ true → (lives qs n ≡ true → lives (filter test qs) n ≡ true)
        → lives (cond b (q ∷ filter test qs) (filter test qs)) n ≡ true
    go true true x y l ih = ap (λ (b : Bool). lives_in (cond b (Some q) (find n (filter test qs)))) y ∙ l
    go true false x y l ih = ap (λ (b : Bool). lives_in (cond b (Some q) (find n (filter test qs)))) y ∙ ih l
    go false true x y l ih = absurd (let z : true ≡ false = sym (h q (eqb-true q.pid n y) l) ∙ x in cc)
    go false false x y l ih = ih l

pub append_alive : (ps rs : List Proc) (n : ℕ) → lives ps n ≡ true → lives (ps ++ rs) n ≡ true
append_alive [] rs n e = absurd cc
append_alive (q ∷ qs) rs n e = go (q.pid == n) e (append_alive qs rs n)
  where
    go : (b : Bool) → lives_in (cond b (Some q) (find n qs)) ≡ true → (lives qs n ≡ true → lives (qs ++ rs) n ≡ true) → lives_in (cond b (Some q) (find n (qs ++ rs))) ≡ true
    go true l ih = l
    go false l ih = ih l

pub with_number : (p q : Proc) → (cond (q.pid == p.pid) p q).pid ≡ q.pid
with_number p q = go (q.pid == p.pid) refl
  where
    go : (b : Bool) → (q.pid == p.pid) ≡ b → (cond b p q).pid ≡ q.pid
    go true e = sym (eqb-true q.pid p.pid e)
    go false e = refl

with_alive : (p : Proc) (ps : List Proc) (n : ℕ) → (p.pid ≡ n → has_life p.life ≡ true) → lives ps n ≡ true → lives (with_proc ps p) n ≡ true
with_alive p ps n h e = map_alive (λ (q : Proc). cond (q.pid == p.pid) p q) ps n (with_number p) (λ q i l. go q i l (q.pid == p.pid) refl) e
  where
    go : (q : Proc) → q.pid ≡ n → has_life q.life ≡ true → (b : Bool) → (q.pid == p.pid) ≡ b → has_life (cond b p q).life ≡ true
    go q i l true x = h (sym (eqb-true q.pid p.pid x) ∙ i)
    go q i l false x = l

without_alive : (ps : List Proc) (pid n : ℕ) → n ≢ pid → lives ps n ≡ true → lives (without_proc ps pid) n ≡ true
without_alive ps pid n d e = filter_alive (λ (q : Proc). not (q.pid == pid)) ps n (λ q i l. ap not (ne_eqb q.pid pid (λ k. d (sym i ∙ k)))) e

pub without_dead : (ps : List Proc) (pid : ℕ) → lives (without_proc ps pid) pid ≡ false
without_dead [] pid = refl
without_dead (q ∷ qs) pid = go (q.pid == pid) refl (without_dead qs pid)
  where
    go : (b : Bool) → (q.pid == pid) ≡ b → lives (without_proc qs pid) pid ≡ false → lives (cond (not b) (q ∷ without_proc qs pid) (without_proc qs pid)) pid ≡ false
    go true x ih = ih
    go false x ih = ap (λ (b : Bool). lives_in (cond b (Some q) (find pid (without_proc qs pid)))) x ∙ ih

orphan_alive : (ps : List Proc) (pid n : ℕ) → lives ps n ≡ true → lives (orphaned_procs ps pid) n ≡ true
orphan_alive ps pid n e =
    map_alive (λ (q : Proc). record q { parent = cond (q.parent == pid) 0 q.parent }) (filter (λ (q : Proc). not ((q.parent == pid) && is_ended q.life)) ps) n (λ q. refl) (λ q i l. l)
    (filter_alive (λ (q : Proc). not ((q.parent == pid) && is_ended q.life)) ps n (λ q i l. live q.life (q.parent == pid) l) e)
  where
    live : (life : Life) (b : Bool) → has_life life ≡ true → not (b && is_ended life) ≡ true
    live New true l = refl
    live New false l = refl
    live (HoldsSpace s) true l = refl
    live (HoldsSpace s) false l = refl
    live (LendsSpace s c) true l = refl
    live (LendsSpace s c) false l = refl
    live (Ended status) b l = absurd cc

pub woken_lives : (ps : List Proc) (pid n : ℕ) → lives (woken_procs ps pid) n ≡ lives ps n
woken_lives ps pid n = map_lives (λ (q : Proc). record q { asleep = cond (q.pid == pid) false q.asleep }) ps n (λ q. refl) (λ q. refl)

left_alive : (gone : Bool) (ps : List Proc) (p : Proc) (status n : ℕ) → n ≢ p.pid → lives ps n ≡ true → lives (left_procs gone ps p status) n ≡ true
left_alive true ps p status n d e = without_alive ps p.pid n d e
left_alive false ps p status n d e = woken_lives (with_proc ps record p { life = Ended status }) p.parent n ∙ with_alive (record p { life = Ended status }) ps n (λ k. absurd (d (sym k))) e

pub left_dead : (gone : Bool) (ps : List Proc) (p : Proc) (status : ℕ) → lives (left_procs gone ps p status) p.pid ≡ false
left_dead true ps p status = without_dead ps p.pid
left_dead false ps p status = woken_lives (with_proc ps record p { life = Ended status }) p.parent p.pid ∙ map_dead (λ (q : Proc). cond (q.pid == p.pid) (record p { life = Ended status }) q) ps p.pid
    (with_number (record p { life = Ended status })) (λ q i. go q (q.pid == p.pid) (eq-eqb q.pid p.pid i))
  where
    go : (q : Proc) (b : Bool) → b ≡ true → has_life (cond b (record p { life = Ended status }) q).life ≡ false
    go q true e = refl
    go q false e = absurd cc

-- who lives before a change lives after it, but for one who ends
abbrev Lasts : Proc → Change → ℕ → Type 0
Lasts p (End status) n = n ≢ p.pid
Lasts p change n = Unit {0}

reaped_apart : (ps : List Proc) (child n : ℕ) → lives ps child ≡ false → lives ps n ≡ true → n ≢ child
reaped_apart ps child n d e k = absurd (let z : true ≡ false = sym e ∙ ap (lives ps) k ∙ d in cc)

pub after_alive : (ps : List Proc) (p : Proc) (next n : ℕ) (change : Change) → (p.pid ≡ n → has_life p.life ≡ true) → MayReap ps change
    → Lasts p change n → lives ps n ≡ true → lives (procs_after ps p next change) n ≡ true
after_alive ps p next n (Fork child) h r l e = append_alive (with_proc ps p) (child_proc p child (HoldsSpace next) ∷ []) n (with_alive p ps n h e)
after_alive ps p next n (Lend child) h r l e = append_alive (with_proc ps p) (child_proc p child New ∷ []) n (with_alive p ps n h e)
after_alive ps p next n (Exec image top) h r l e = with_alive (record p { life = HoldsSpace next }) ps n (λ k. refl) e
after_alive ps p next n (Reap child) h r l e = with_alive p (without_proc ps child) n h (without_alive ps child n (reaped_apart ps child n r e) e)
after_alive ps p next n Sleep h r l e = with_alive (record p { asleep = true }) ps n h e
after_alive ps p next n (End status) h r l e = left_alive (p.parent == 0) (orphaned_procs ps p.pid) p status n l (orphan_alive ps p.pid n e)
after_alive ps p next n _ h r l e = with_alive p ps n h e

-- u pages

u_kept : (ps : List Proc) (p : Proc) (next : ℕ) (hs : Holdings) (change : Change) (n : ℕ) → (p.pid ≡ n → lives ps n ≡ true → has_life p.life ≡ true)
    → MayReap ps change → Lasts p change n
    → lengths (owners.U n) hs ≡ u_pieces (u_blocks (lives ps n || lives (procs_after ps p next change) n))
    → lengths (owners.U n) hs ≡ u_pieces (u_blocks (lives (procs_after ps p next change) n))
u_kept ps p next hs change n h r l e = e ∙ u_some (lives ps n) (lives (procs_after ps p next change) n) (λ a. after_alive ps p next n change (λ k. h k a) r l a)

u_after : (ps : List Proc) (x : Proc) (next : ℕ) (c : Changing) (hs : Holdings) (p q : Placement) (change : Change)
    → ((n : ℕ) → x.pid ≡ n → lives ps n ≡ true → has_life x.life ≡ true) → MayReap ps change
    → ((n : ℕ) → lengths (owners.U n) hs ≡ u_pieces (u_blocks (lives ps n || lives (procs_after ps x next change) n)))
    → (n : ℕ) → lengths (owners.U n) (holdings_after (record c { pid = x.pid }) hs p q change) ≡ u_pieces (u_blocks (lives (procs_after ps x next change) n))
u_after ps x next c hs p q (Resize d s) h r u n = other_left (owners.Stack c.sid) (owners.U n) (length (pieces (2 * s))) (kept (owners.Data c.sid) (length (pieces (2 * d))) hs) refl
    ∙ other_left (owners.Data c.sid) (owners.U n) (length (pieces (2 * d))) hs refl ∙ u_kept ps x next hs (Resize d s) n (h n) r tt (u n)
u_after ps x next c hs p q (Exec image top) h r u n = unless_u hs c.borrowed c.sid (image_of p c.sid) (sharers q (image_of p c.sid)) n ∙ u_kept ps x next hs (Exec image top) n (h n) r tt (u n)
u_after ps x next c hs p q (End status) h r u n =
    let rest : Holdings = given_back_unless c.borrowed hs c.sid (image_of p c.sid) (sharers q (image_of p c.sid)) in
    elim (cases_eq n x.pid) [
      | inl e ↦ subst (λ (m : ℕ). lengths (owners.U m) (kept (owners.U x.pid) 0 rest) ≡ u_pieces (u_blocks (lives (procs_after ps x next (End status)) m))) (sym e)
          (own_left (owners.U x.pid) rest ∙ ap (λ (b : Bool). u_pieces (u_blocks b)) (sym (left_dead (x.parent == 0) (orphaned_procs ps x.pid) x status)))
      | inr d ↦ other_left (owners.U x.pid) (owners.U n) 0 rest (ne_eqb x.pid n (λ k. d (sym k))) ∙ unless_u hs c.borrowed c.sid (image_of p c.sid) (sharers q (image_of p c.sid)) n
          ∙ u_kept ps x next hs (End status) n (h n) r d (u n)
    ]
u_after ps x next c hs p q y h r u n = u_kept ps x next hs y n (h n) r tt (u n)

-- Hands and transfers.

-- the same hands at as many frames, and the same transfers
pub record Unhanded (p q : Placement) : Type 0 where
  pub hands : SameHands p q
  pub transfers : q.transfers ≡ p.transfers

unhanded_self : (p : Placement) → Unhanded p p
unhanded_self p = record { hands = hands_self p; transfers = refl }

unhanded_both : (p q r : Placement) → Unhanded p q → Unhanded q r → Unhanded p r
unhanded_both p q r s t = record { hands = hands_both p q r s.hands t.hands; transfers = t.transfers ∙ s.transfers }

drop_unhanded : (p : Placement) (v : Page) → Unhanded p (drop_page p v)
drop_unhanded p v = go (frame_of (state_of p v))
  where
    go : (h : Option ℕ) → Unhanded p (drop_at p v h)
    go None = record { hands = record { front = refl; back = refl; frames = refl }; transfers = refl }
    go (Some f) = record { hands = record { front = refl; back = refl; frames = length_set_frame p.holds f None }; transfers = refl }

drop_all_unhanded : (qs : List Page) (p : Placement) → Unhanded p (drop_all p qs)
drop_all_unhanded [] p = unhanded_self p
drop_all_unhanded (v ∷ qs) p = unhanded_both p (drop_page p v) (drop_all (drop_page p v) qs) (drop_unhanded p v) (drop_all_unhanded qs (drop_page p v))

leave_unhanded : (p : Placement) (v : Page) → Unhanded p (leave_page p v)
leave_unhanded p v = go (state_of p v) (listed p v)
  where
    go : (s : PageState) (n : ℕ) → Unhanded p (leave_by p v s n)
    go (Valid f) n = record { hands = record { front = refl; back = refl; frames = refl }; transfers = refl }
    go (Invalid f) zero = record { hands = record { front = refl; back = refl; frames = refl }; transfers = refl }
    go (Invalid f) (suc n) = record { hands = record { front = refl; back = refl; frames = refl }; transfers = refl }
    go OnSwap n = record { hands = record { front = refl; back = refl; frames = refl }; transfers = refl }
    go Unfilled n = record { hands = record { front = refl; back = refl; frames = refl }; transfers = refl }
    go (Coming f) n = unhanded_self p
    go (Going f) n = unhanded_self p

leave_all_unhanded : (qs : List Page) (p : Placement) → Unhanded p (leave_all p qs)
leave_all_unhanded [] p = unhanded_self p
leave_all_unhanded (v ∷ qs) p = unhanded_both p (leave_page p v) (leave_all (leave_page p v) qs) (leave_unhanded p v) (leave_all_unhanded qs (leave_page p v))

text_unhanded : (p : Placement) (image : ℕ) → Unhanded p (leave_text p image)
text_unhanded p image = go (sharers p image)
  where
    go : (n : ℕ) → Unhanded p (leave_text_by p image n)
    go zero = leave_all_unhanded (pages_of_text p image) p
    go (suc n) = unhanded_self p

resize_unhanded : (p : Placement) (sid d s : ℕ) → Unhanded p (resize p sid d s)
resize_unhanded p sid d s =
    let u : Unhanded p (drop_all p (dropped_pages p sid d s)) = drop_all_unhanded (dropped_pages p sid d s) p in
    let h : SameHands p (drop_all p (dropped_pages p sid d s)) = u.hands in
    record { hands = record { front = h.front; back = h.back; frames = h.frames }; transfers = u.transfers }

give_up_unhanded : (p : Placement) (sid : ℕ) → Unhanded p (give_up p sid)
give_up_unhanded p sid =
    let d : Placement = drop_all p (pages_of_space p sid) in
    let u : Unhanded p d = drop_all_unhanded (pages_of_space p sid) p in
    let h : SameHands p d = u.hands in
    unhanded_both p (remove_space d sid) (give_up p sid) (record { hands = record { front = h.front; back = h.back; frames = h.frames }; transfers = u.transfers })
    (text_unhanded (remove_space d sid) (image_of p sid))

unless_unhanded : (borrowed : Bool) (p : Placement) (sid : ℕ) → Unhanded p (give_up_unless borrowed p sid)
unless_unhanded true p sid = unhanded_self p
unless_unhanded false p sid = give_up_unhanded p sid

enter_unhanded : (p : Placement) (sid image : ℕ) (facts : Option Image) → Unhanded p (enter_image p sid image facts)
enter_unhanded p sid image None = unhanded_self p
enter_unhanded p sid image (Some facts) = record { hands = record { front = refl; back = refl; frames = refl }; transfers = refl }

pub change_unhanded : (c : Changing) (p : Placement) (change : Change)
    → Unhanded p (place_change c p change)
change_unhanded c p (Resize d s) = resize_unhanded p c.sid d s
change_unhanded c p (Fork child) = record { hands = record { front = refl; back = refl; frames = refl }; transfers = refl }
change_unhanded c p (Lend child) = record { hands = record { front = refl; back = refl; frames = refl }; transfers = refl }
change_unhanded c p (Exec image top) =
    unhanded_both p (enter_image p c.next_sid image (facts_numbered c.images image)) (place_change c p (Exec image top))
    (enter_unhanded p c.next_sid image (facts_numbered c.images image)) (unless_unhanded c.borrowed (enter_image p c.next_sid image (facts_numbered c.images image)) c.sid)
change_unhanded c p (End status) =
    let u : Unhanded p (give_up_unless c.borrowed p c.sid) = unless_unhanded c.borrowed p c.sid in
    let h : SameHands p (give_up_unless c.borrowed p c.sid) = u.hands in
    record { hands = record { front = h.front; back = h.back; frames = h.frames }; transfers = u.transfers }
change_unhanded c p _ = unhanded_self p

-- The whole.

-- each owner holds what it needs in this machine, and after that the further pieces that it needs in the next one
pub record HasTaken (size : ℕ) (k next : Kernel) : Type 0 where
  pub book : IsBook size k.holdings
  pub taken : (owner : Owner) → lengths owner k.holdings ≡ needed k owner ++ drop (length (needed k owner)) (needed next owner)

-- the holdings have what either machine needs
pub taken_fits : (size : ℕ) (k next : Kernel) → HasTaken size k next
    → ((i : ℕ) → length (slots_of next.place (Text i 0)) ≡ length (slots_of k.place (Text i 0))) → FitsBoth k.place next.place k.holdings
taken_fits size k next t e = record {
  of_data = λ sid. t.taken (owners.Data sid) ∙ both_pieces (data_count k.place sid) (data_count next.place sid);
  of_stack = λ sid. t.taken (owners.Stack sid) ∙ both_pieces (stack_count k.place sid) (stack_count next.place sid);
  of_text = λ i. t.taken (owners.Text i)
      ∙ both_while (sharers k.place i) (sharers next.place i) (2 * length (slots_of k.place (Text i 0))) (2 * length (slots_of next.place (Text i 0))) (ap (λ (n : ℕ). 2 * n) (e i));
}

pub taken_u : (size : ℕ) (k next : Kernel) (n : ℕ) → HasTaken size k next
    → lengths (owners.U n) k.holdings ≡ u_pieces (u_blocks (lives k.processes n || lives next.processes n))
taken_u size k next n t = t.taken (owners.U n) ∙ both_u (lives k.processes n) (lives next.processes n)

change_sound : (size : ℕ) (images : List Image) (k : Kernel) (before : Holdings) (x : Proc) (e : Entry) (change : Change)
    → ((n : ℕ) → x.pid ≡ n → lives k.processes n ≡ true → has_life x.life ≡ true)
    → Sound size (record k { holdings = before }) → HasTaken size k (change_by images k x e change)
    → CanChange k.place (space_of_life x.life) (gave_back x.life) k.next_sid change
    → MayForget images k.place (space_of_life x.life) (gave_back x.life) k.next_sid change → MayReap k.processes change
    → Sound size (change_by images k x e change)
change_sound size images k before x e change h s t c m r =
    let o : OneOwner size (lives k.processes) k.place before = s.owner in
    let who = changing_of images k x e in
    let place = place_change who k.place change in
    let u : Unhanded k.place place = change_unhanded who k.place change in
    let w : SameHands k.place place = u.hands in
    record {
      owner = one_owner size (lives (procs_after k.processes x k.next_sid change)) place
          (holdings_after who k.holdings k.place place change)
          (place_change_owner who k.place change o.frames c)
          (owns_from size (lives (procs_after k.processes x k.next_sid change)) place
          (holdings_after who k.holdings k.place place change)
          (after_apart size who k.holdings k.place place change
          (record { pieces = t.book.pieces; apart = t.book.apart }))
          (change_fits who k.place change k.holdings c m
          (taken_fits size k (change_by images k x e change) t (change_texts who k.place change)))
          (u_after k.processes x k.next_sid who k.holdings k.place place change h r
          (λ n. taken_u size k (change_by images k x e change) n t)))
          (place_change_aside who k.place change o.aside m);
      tokens = s.tokens ∙ sym w.frames;
      hands = hands_stand k.place place w s.hands;
      few_transfers = subst (λ (ts : List Transfer). length ts ≤ 16) (sym u.transfers) s.few_transfers;
    }

-- nothing is asked where there is no such process
still_sound : (size : ℕ) (k : Kernel) (before : Holdings) → Sound size (record k { holdings = before }) → HasTaken size k k → Sound size k
still_sound size k before s t =
    let o : OneOwner size (lives k.processes) k.place before = s.owner in
    record {
      owner = one_owner size (lives k.processes) k.place k.holdings o.frames
          (owns_from size (lives k.processes) k.place k.holdings (record { pieces = t.book.pieces; apart = t.book.apart })
          (grows_fits k.place k.place k.holdings (grows_self k.place) (taken_fits size k k t (λ i. refl)))
          (λ n. taken_u size k k n t ∙ u_some (lives k.processes n) (lives k.processes n) (λ a. a)))
          o.aside;
      tokens = s.tokens;
      hands = s.hands;
      few_transfers = s.few_transfers;
    }

-- A change of a process keeps the machine sound.
pub flat_sound : (size : ℕ) (images : List Image) (k : Kernel) (before : Holdings) (pid : ℕ) (regs : Regs) (e : Entry) (change : Change)
    → Sound size (record k { holdings = before }) → HasTaken size k (change_step images k pid regs e change) → MayChange images k pid change
    → Sound size (change_step images k pid regs e change)
flat_sound size images k before pid regs e change s t m = go (find pid k.processes) refl t m.can m.forgets
  where
    go : (o : Option Proc) → find pid k.processes ≡ o → HasTaken size k (change_if images k regs e change o)
        → CanChange k.place (space_of_life (life_of_proc o)) (gave_back (life_of_proc o)) k.next_sid change
        → MayForget images k.place (space_of_life (life_of_proc o)) (gave_back (life_of_proc o)) k.next_sid change
        → Sound size (change_if images k regs e change o)
    go None f t c w = still_sound size k before s t
    go (Some p) f t c w = change_sound size images k before (record p { regs = regs }) e change alive s t c w m.reaps
      where
        alive : (n : ℕ) → p.pid ≡ n → lives k.processes n ≡ true → has_life p.life ≡ true
        alive n i l = sym (ap lives_in (ap (λ (j : ℕ). find j k.processes) (sym i ∙ proc_number k.processes pid p f) ∙ f)) ∙ l
