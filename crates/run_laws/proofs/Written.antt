-- Bytes that a process writes go into the frames of their pages, and keep the machine coupled.
use Rattle.std.proofs.Common.{◌≡◌, ◌≢◌, ◌⊎◌, inl, inr, ℕ, ◌/◌, ◌%◌, ◌==◌, Bool, true, false, List, [], ◌∷◌, length, Option, Some, None, refl, sym, ap, ◌∙◌, subst}
use Rattle.std.specs.Prelude.{filter_map}
use Rattle.vm_facts.specs.Answers.{ByteWrite}
use Rattle.flat_state.specs.Space.{Space, spot_at, address_in, put_in_space}
use Rattle.flat_state.specs.Flat.{Holding, Holds, Process, FlatState, Inputs, process_of}
use Rattle.vm_facts.specs.declared.page.Page.{Page}
use Rattle.vm_facts.specs.declared.page.Page.TheVariants as pages
use Rattle.vm_facts.specs.declared.page.PageState.{PageState}
use Rattle.vm_facts.specs.declared.page.PageState.TheVariants.{Unfilled, Valid, Invalid, Coming, Going, OnSwap}
use Rattle.flat_state.specs.declared.spot.Spot.{Spot}
use Rattle.flat_state.specs.declared.spot.Spot.TheVariants.{Text, Data, Stack, Below, Outside}
use Rattle.flat_state.specs.Change.{replaced, replaced_by, with_process, wrote_if, wrote_by, apply_writes}
use Rattle.page_model.specs.Pages.{numbered, is_valid, frame_of}
use Rattle.page_model.specs.Placement.{Placement, Due, state_of}
use Rattle.page_model.specs.Moves.{touch, touch_to, touch_all}
use Rattle.flat_state.specs.Writes.{IsByteOf}
use Rattle.kernel_model.specs.Kernel.{Kernel, write_step, write_by_state}
use Rattle.kernel_model.specs.Coupled.{Coupled}
use Rattle.kernel_model.specs.Sound.{Sound}
use Rattle.kernel_model.specs.Numbers.{Numbered}
use Rattle.flat_state.specs.Numbers.{IsNumbered}
use Rattle.kernel_model.specs.Stands.{Stands}
use Rattle.page_laws.proofs.Lists.Pages.{page_cases, put_state}
use Rattle.page_laws.proofs.Moves.Steps.{page_in, put_other_state}
use Rattle.std.proofs.lemmas.Option.{same_Some}
use Rattle.page_laws.proofs.Moves.Stays.{Steady}
use Rattle.page_laws.proofs.Bytes.Others.{touch_steady}
use Rattle.kernel_laws.proofs.Flat.Lists.{pid_of}
use Rattle.kernel_laws.proofs.Flat.Numbers.{writes_numbered}
use Rattle.kernel_laws.proofs.Machine.Swaps.{found_self}
use Rattle.kernel_laws.proofs.Machine.Writes.{written, write_coupled, writes_one}
use Rattle.kernel_laws.proofs.Stands.Changes.{write_stands}
use Rattle.kernel_laws.proofs.Sound.Steps.{write_sound}
use Rattle.kernel_laws.proofs.Sound.NumbersApart.{write_numbered}
use Rattle.flat_model.specs.Touched.{page_tested}
use Rattle.run_laws.specs.Machine.{place_in, frame_written, write_byte, write_bytes}
use Rattle.run_laws.proofs.Writing.{SameSpace, puts_same}
use Rattle.run_laws.proofs.Stepping.{wrote_process}

-- a machine that stands for a flat state
pub record Mid (A : Inputs) (flat : FlatState) (k : Kernel) (image : List ℕ) : Type 0 where
  pub sound : Sound A.swap_blocks k
  pub numbered : Numbered k
  pub coupled : Coupled k A.images image flat
  pub stands : Stands A.images k flat

-- what bytes that are written leave alone
pub record Rest (k l : Kernel) : Type 0 where
  pub holdings : l.holdings ≡ k.holdings
  pub processes : l.processes ≡ k.processes
  pub next_sid : l.next_sid ≡ k.next_sid
  pub journal : l.journal ≡ k.journal
  pub due : l.place.due ≡ k.place.due

-- Touched pages.

touch_case : (p : Placement) (v : Page)
    → (touch p v ≡ p) ⊎ ((f : ℕ) × (state_of p v ≡ Valid f) × (touch p v ≡ Rattle.page_model.specs.Moves.turn p v (Valid f) true p.free p.transfers))
touch_case p v = go v (state_of p v) refl
  where
    go : (v : Page) (s : PageState) → state_of p v ≡ s
        → (touch_to p v s ≡ p) ⊎ ((f : ℕ) × (state_of p v ≡ Valid f) × (touch_to p v s ≡ Rattle.page_model.specs.Moves.turn p v (Valid f) true p.free p.transfers))
    go (pages.Data sid n) (Valid f) e = inr (f, e, refl)
    go (pages.Stack sid n) (Valid f) e = inr (f, e, refl)
    go (pages.Text image n) s e = inl refl
    go (pages.Data sid n) Unfilled e = inl refl
    go (pages.Data sid n) (Invalid f) e = inl refl
    go (pages.Data sid n) (Coming f) e = inl refl
    go (pages.Data sid n) (Going f) e = inl refl
    go (pages.Data sid n) OnSwap e = inl refl
    go (pages.Stack sid n) Unfilled e = inl refl
    go (pages.Stack sid n) (Invalid f) e = inl refl
    go (pages.Stack sid n) (Coming f) e = inl refl
    go (pages.Stack sid n) (Going f) e = inl refl
    go (pages.Stack sid n) OnSwap e = inl refl

pub touch_states : (p : Placement) (v r : Page) → state_of (touch p v) r ≡ state_of p r
touch_states p v r = elim (touch_case p v) [
  | inl e ↦ ap (λ (x : Placement). state_of x r) e
  | inr t ↦ ap (λ (x : Placement). state_of x r) t.2 ∙ elim (page_cases r v) [
    | inl same ↦ subst (λ (x : Page). state_of (Rattle.page_model.specs.Placement.put p v (Valid t.0) true) x ≡ state_of p x) (sym same)
        (put_state p v (Valid t.0) true (page_in p v t.0 (ap frame_of t.1)) ∙ sym t.1)
    | inr other ↦ put_other_state p v (Valid t.0) true r other
  ]
]

-- One byte.

abbrev pub IsValidAt : Placement → Option Page → Type 0
IsValidAt p None = ⊥
IsValidAt p (Some v) = is_valid (state_of p v) ≡ true

-- each byte is of a valid page
abbrev pub AllWritable : Placement → Space → List ByteWrite → Type 0
AllWritable p s [] = Unit {0}
AllWritable p s (w ∷ ws) = IsValidAt p (page_tested s (address_in s w.address)) × AllWritable p s ws

still_valid : (p r : Placement) (o : Option Page) → ((v : Page) → state_of r v ≡ state_of p v) → IsValidAt p o → IsValidAt r o
still_valid p r None h a = a
still_valid p r (Some v) h a = ap is_valid (h v) ∙ a

still_writable : (p r : Placement) (s : Space) (ws : List ByteWrite) → ((v : Page) → state_of r v ≡ state_of p v) → AllWritable p s ws → AllWritable r s ws
still_writable p r s [] h a = tt
still_writable p r s (w ∷ ws) h a = (still_valid p r (page_tested s (address_in s w.address)) h a.0, still_writable p r s ws h a.1)

-- where a byte goes
abbrev pub touch_some : Placement → Option Page → Placement
touch_some p None = p
touch_some p (Some v) = touch p v

pub record WroteOne (A : Inputs) (flat : FlatState) (k l : Kernel) (image : List ℕ) (o : Option Page) : Type 0 where
  pub mid : Mid A flat l image
  pub place : l.place ≡ touch_some k.place o
  pub rest : Rest k l

same_spot : (s t : Space) (address : ℕ) → SameSpace s t → address_in t address ≡ address_in s address
same_spot s t address h =
    ap (λ (n : ℕ). spot_at n (length t.data_bytes) (length t.stack_bytes) address) (ap (λ (l : List ℕ). length l) h.text)
    ∙ ap (λ (n : ℕ). spot_at (length s.text_bytes) n (length t.stack_bytes) address) h.data_size
    ∙ ap (λ (n : ℕ). spot_at (length s.text_bytes) (length s.data_bytes) n address) h.stack_size

pub write_one : (A : Inputs) (flat : FlatState) (k : Kernel) (image : List ℕ) (pid : ℕ) (q : Process) (t s : Space) (w : ByteWrite)
    → Mid A flat k image → k.place.due ≡ [] → IsNumbered flat
    → process_of flat pid ≡ Some q → q.holding ≡ Holds t → SameSpace s t
    → IsValidAt k.place (page_tested s (address_in s w.address))
    → WroteOne A (apply_writes flat pid (w ∷ [])) k (write_byte k s w) image (page_tested s (address_in s w.address))
write_one A flat k image pid q t s w m due nums f h same valid = go (address_in s w.address) refl valid
  where
    after : FlatState
    after = apply_writes flat pid (w ∷ [])

    made : (v : Page) (at g : ℕ) → IsByteOf t (address_in t w.address) v at → state_of k.place v ≡ Valid g → WroteOne A after k (write_step k v g at w.byte) image (Some v)
    made v at g b e = let st : Steady k.place (touch k.place v) = touch_steady k.place v in record {
      mid = record {
        sound = write_sound A.swap_blocks k v g at w.byte m.sound;
        numbered = write_numbered k v g at w.byte m.numbered;
        coupled = write_coupled A.swap_blocks k A.images image flat pid q t w v g at m.sound due nums f h b e m.coupled;
        stands = write_stands A.images k flat pid q t w v g at f h m.stands;
      };
      place = refl;
      rest = record { holdings = refl; processes = refl; next_sid = refl; journal = refl; due = st.due };
    }

    into : (v : Page) (at : ℕ) → IsByteOf t (address_in t w.address) v at → (x : PageState) → state_of k.place v ≡ x → is_valid x ≡ true
        → WroteOne A after k (write_by_state k v x at w.byte) image (Some v)
    into v at b (Valid g) e i = made v at g b e
    into v at b Unfilled e i = absurd cc
    into v at b (Invalid g) e i = absurd cc
    into v at b (Coming g) e i = absurd cc
    into v at b (Going g) e i = absurd cc
    into v at b OnSwap e i = absurd cc

    at_spot : (x : Spot) (v : Page) (at : ℕ) → address_in s w.address ≡ x → IsByteOf t x v at → IsByteOf t (address_in t w.address) v at
    at_spot x v at e b = subst (λ (y : Spot). IsByteOf t y v at) (sym (same_spot s t w.address same ∙ e)) b

    go : (x : Spot) → address_in s w.address ≡ x → IsValidAt k.place (page_tested s x) → WroteOne A after k (frame_written k (page_tested s x) (place_in x) w.byte) image (page_tested s x)
    go (Text i) e a = absurd a
    go (Data i) e a = into (pages.Data s.sid (i / 1024)) (i % 1024) (at_spot (Data i) (pages.Data s.sid (i / 1024)) (i % 1024) e (ap (λ (n : ℕ). pages.Data n (i / 1024)) (sym same.sid), refl))
        (state_of k.place (pages.Data s.sid (i / 1024))) refl a
    go (Stack i) e a = into (pages.Stack s.sid (i / 1024)) (i % 1024) (at_spot (Stack i) (pages.Stack s.sid (i / 1024)) (i % 1024) e (ap (λ (n : ℕ). pages.Stack n (i / 1024)) (sym same.sid), refl))
        (state_of k.place (pages.Stack s.sid (i / 1024))) refl a
    go Below e a = absurd a
    go Outside e a = absurd a

-- All bytes.

replaced_self : (ps : List Process) (q : Process) → numbered pid_of q.pid ps ≡ Some q → replaced ps q ≡ ps
unfolding replaced
replaced_self [] q e = refl
replaced_self (p ∷ ps) q e = go (p.pid == q.pid) e (replaced_self ps q)
  where
    go : (b : Bool) → Rattle.std.proofs.Common.cond b (Some p) (numbered pid_of q.pid ps) ≡ Some q → (numbered pid_of q.pid ps ≡ Some q → replaced ps q ≡ ps)
        → replaced_by b q p ps (replaced ps q) ≡ p ∷ ps
    go true k ih = ap (λ (x : Process). x ∷ ps) (sym (same_Some p q k))
    go false k ih = ap (λ (l : List Process). p ∷ l) (ih k)

pub no_writes : (flat : FlatState) (pid : ℕ) (q : Process) (s : Space) → process_of flat pid ≡ Some q → q.holding ≡ Holds s → apply_writes flat pid [] ≡ flat
unfolding apply_writes
no_writes flat pid q s f h =
    ap (wrote_if flat []) f ∙ ap (wrote_by flat q []) h ∙ ap (λ (x : Holding). with_process flat (record q { holding = x })) (sym h)
    ∙ ap (λ (l : List Process). let x : FlatState = record flat { processes = l } in x) (replaced_self flat.processes q (found_self flat pid q f))

pub record WroteAll (A : Inputs) (flat : FlatState) (k l : Kernel) (image : List ℕ) (qs : List Page) : Type 0 where
  pub mid : Mid A flat l image
  pub place : l.place ≡ touch_all k.place qs
  pub rest : Rest k l

rest_both : (k l m : Kernel) → Rest k l → Rest l m → Rest k m
rest_both k l m a b = record { holdings = b.holdings ∙ a.holdings; processes = b.processes ∙ a.processes; next_sid = b.next_sid ∙ a.next_sid; journal = b.journal ∙ a.journal; due = b.due ∙ a.due }

touched_more : (p : Placement) (s : Space) (w : ByteWrite) (ws : List ByteWrite)
    → touch_all p (filter_map (λ (w : ByteWrite). page_tested s (address_in s w.address)) (w ∷ ws))
    ≡ touch_all (touch_some p (page_tested s (address_in s w.address))) (filter_map (λ (w : ByteWrite). page_tested s (address_in s w.address)) ws)
touched_more p s w ws = go (address_in s w.address) refl
  where
    go : (x : Spot) → address_in s w.address ≡ x → touch_all p (filter_map (λ (w : ByteWrite). page_tested s (address_in s w.address)) (w ∷ ws))
        ≡ touch_all (touch_some p (page_tested s x)) (filter_map (λ (w : ByteWrite). page_tested s (address_in s w.address)) ws)
    go (Text i) e = cc
    go (Data i) e = cc
    go (Stack i) e = cc
    go Below e = cc
    go Outside e = cc

touched_states : (p : Placement) (o : Option Page) (v : Page) → state_of (touch_some p o) v ≡ state_of p v
touched_states p None v = refl
touched_states p (Some x) v = touch_states p x v

same_both : (s t z : Space) → SameSpace s t → SameSpace t z → SameSpace s z
same_both s t z a b = record { sid = b.sid ∙ a.sid; image = b.image ∙ a.image; text = b.text ∙ a.text; data_size = b.data_size ∙ a.data_size; stack_size = b.stack_size ∙ a.stack_size }

pub write_all : (ws : List ByteWrite) (A : Inputs) (flat : FlatState) (k : Kernel) (image : List ℕ) (pid : ℕ) (q : Process) (t s : Space)
    → Mid A flat k image → k.place.due ≡ [] → IsNumbered flat
    → process_of flat pid ≡ Some q → q.holding ≡ Holds t → SameSpace s t
    → AllWritable k.place s ws → WroteAll A (apply_writes flat pid ws) k (write_bytes k s ws) image
    (filter_map (λ (w : ByteWrite). page_tested s (address_in s w.address)) ws)
write_all [] A flat k image pid q t s m due nums f h same a = record {
  mid = subst (λ (x : FlatState). Mid A x k image) (sym (no_writes flat pid q t f h)) m;
  place = refl;
  rest = record { holdings = refl; processes = refl; next_sid = refl; journal = refl; due = refl };
}
write_all (w ∷ ws) A flat k image pid q t s m due nums f h same a =
    let flat1 : FlatState = apply_writes flat pid (w ∷ []) in
    let k1 : Kernel = write_byte k s w in
    let o : Option Page = page_tested s (address_in s w.address) in
    let q1 : Process = record q { holding = Holds (put_in_space t w) } in
    let one : WroteOne A flat1 k k1 image o = write_one A flat k image pid q t s w m due nums f h same a.0 in
    let r : Rest k k1 = one.rest in
    let here : process_of flat1 pid ≡ Some q1 = subst (λ (x : FlatState). process_of x pid ≡ Some q1) (sym (written flat pid w q t f h)) (wrote_process flat pid q (put_in_space t w) f) in
    let more : WroteAll A (apply_writes flat1 pid ws) k1 (write_bytes k1 s ws) image (filter_map (λ (w : ByteWrite). page_tested s (address_in s w.address)) ws) =
    write_all ws A flat1 k1 image pid q1 (put_in_space t w) s one.mid (r.due ∙ due) (writes_numbered flat pid (w ∷ []) q t f h nums) here refl
    (same_both s t (put_in_space t w) same (puts_same (w ∷ []) t))
    (still_writable k.place k1.place s ws (λ v. ap (λ (p : Placement). state_of p v) one.place ∙ touched_states k.place o v) a.1) in
    record {
      mid = subst (λ (x : FlatState). Mid A x (write_bytes k1 s ws) image) (sym (writes_one flat pid w ws q t f h)) more.mid;
      place = more.place ∙ ap (λ (p : Placement). touch_all p (filter_map (λ (w : ByteWrite). page_tested s (address_in s w.address)) ws)) one.place ∙ sym (touched_more k.place s w ws);
      rest = rest_both k k1 (write_bytes k1 s ws) r more.rest;
    }
