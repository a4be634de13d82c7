-- What a machine begins with is as the laws ask: nothing is filled, and each frame is free.
use Rattle.std.proofs.Common.{◌≡◌, inl, inr, ℕ, zero, suc, ◌+◌, ◌/◌, ◌<◌, ◌≤◌, ◌==◌, Bool, true, false, cond, List, [], ◌∷◌, length, get_or, replicate, Option, Some, None, refl, sym, ap, ◌∙◌, subst, arith}
use Rattle.std.proofs.lemmas.Bool.{cases_eq}
use Rattle.std.proofs.lemmas.List.{length-replicate}
use Rattle.page_laws.proofs.Moves.Steps.{marked_false}
use Rattle.vm_facts.specs.declared.page.Page.{Page}
use Rattle.vm_facts.specs.declared.page.Page.TheVariants.{Data, Stack, Text}
use Rattle.aout_image.specs.declared.Image.{Image}
use Rattle.aout_image.specs.Image.{image_data_pages, text_pages_of}
use Rattle.page_model.specs.Pages.{Filling, Zeros, SpacePages, TextPages, frame_of, numbered, data_in, stack_in, text_in}
use Rattle.page_model.specs.Frames.{at_frame, count_up}
use Rattle.vm_facts.specs.Lists.{times}
use Rattle.page_model.specs.Placement.{Starting, space_number, image_number, slot_of, unfilled, spaces_from, texts_from, start_placement}
use Rattle.page_model.specs.Rank.{walk, HandsStand}
use Rattle.page_model.specs.Ownership.{OwnsFrames, seated, seated_of, is_marked_dirty, TextAside}
use Rattle.vm_facts.proofs.Lists.{times_head, times_other}
use Rattle.page_laws.proofs.Lists.Local.{none_some}
use Rattle.page_laws.proofs.Moves.Hands.{walk_up}
use Rattle.page_laws.proofs.Ownership.Changes.{BlankSlot, AllBlank, blank_slot_at, unfilled_blank}

-- Pages.

abbrev BlankSpaces : List SpacePages → Type 0
BlankSpaces [] = Unit {0}
BlankSpaces (s ∷ ss) = AllBlank s.data_pages × AllBlank s.stack_pages × BlankSpaces ss

abbrev BlankTexts : List TextPages → Type 0
BlankTexts [] = Unit {0}
BlankTexts (t ∷ ts) = AllBlank t.text_pages × BlankTexts ts

blank_data : (sid : ℕ) (ss : List SpacePages) → BlankSpaces ss → AllBlank (data_in (numbered space_number sid ss))
blank_data sid [] b = tt
blank_data sid (s ∷ ss) b = go (space_number s == sid) (blank_data sid ss b.2)
  where
    go : (x : Bool) → AllBlank (data_in (numbered space_number sid ss)) → AllBlank (data_in (cond x (Some s) (numbered space_number sid ss)))
    go true r = b.0
    go false r = r

blank_stack : (sid : ℕ) (ss : List SpacePages) → BlankSpaces ss → AllBlank (stack_in (numbered space_number sid ss))
blank_stack sid [] b = tt
blank_stack sid (s ∷ ss) b = go (space_number s == sid) (blank_stack sid ss b.2)
  where
    go : (x : Bool) → AllBlank (stack_in (numbered space_number sid ss)) → AllBlank (stack_in (cond x (Some s) (numbered space_number sid ss)))
    go true r = b.1
    go false r = r

blank_text : (image : ℕ) (ts : List TextPages) → BlankTexts ts → AllBlank (text_in (numbered image_number image ts))
blank_text image [] b = tt
blank_text image (t ∷ ts) b = go (image_number t == image) (blank_text image ts b.1)
  where
    go : (x : Bool) → AllBlank (text_in (numbered image_number image ts)) → AllBlank (text_in (cond x (Some t) (numbered image_number image ts)))
    go true r = b.0
    go false r = r

spaces_blank : (n : ℕ) (first : List Starting) → BlankSpaces (spaces_from n first)
spaces_blank n [] = tt
spaces_blank n (a ∷ more) = (unfilled_blank a.facts 0 (image_data_pages a.facts), ((refl, refl), tt), spaces_blank (n + 1) more)

many_blank : (n : ℕ) (x : Filling) → AllBlank (replicate n (unfilled x))
many_blank zero x = tt
many_blank (suc n) x = ((refl, refl), many_blank n x)

texts_blank : (image : ℕ) (images : List Image) → BlankTexts (texts_from image images)
texts_blank image [] = tt
texts_blank image (facts ∷ more) = (many_blank (text_pages_of facts) Zeros, texts_blank (image + 1) more)

-- No page is filled, dirty or saved.
pub start_blank : (images : List Image) (first : List Starting) (frames : ℕ) (q : Page) → BlankSlot (slot_of (start_placement images first frames) q)
start_blank images first frames (Data sid v) = blank_slot_at (data_in (numbered space_number sid (spaces_from 1 first))) v (blank_data sid (spaces_from 1 first) (spaces_blank 1 first))
start_blank images first frames (Stack sid v) = blank_slot_at (stack_in (numbered space_number sid (spaces_from 1 first))) v (blank_stack sid (spaces_from 1 first) (spaces_blank 1 first))
start_blank images first frames (Text image v) = blank_slot_at (text_in (numbered image_number image (texts_from 1 images))) v (blank_text image (texts_from 1 images) (texts_blank 1 images))

-- Frames.

no_page : (n f : ℕ) → at_frame {A = Option Page} (replicate n None) f None ≡ None
no_page n zero = refl
no_page n (suc f) = go n f
  where
    go : (n f : ℕ) → get_or {A = Option Page} (replicate n None) f None ≡ None
    go zero f = refl
    go (suc n) zero = refl
    go (suc n) (suc f) = go n f

-- numbers that rise from one on: none is below it, and each of them stands once
pub count_below : (f a n : ℕ) → f < a → times f (count_up a n) ≡ 0
count_below f a zero l = refl
count_below f a (suc n) l = times_other f a (count_up (a + 1) n) (λ e. absurd (omega arith)) ∙ count_below f (a + 1) n (omega arith)

pub count_once : (f a n : ℕ) → a ≤ f → f < a + n → times f (count_up a n) ≡ 1
count_once f a zero l m = absurd (omega arith)
count_once f a (suc n) l m = elim (cases_eq f a) [
  | inl e ↦ subst (λ (x : ℕ). times f (x ∷ count_up (a + 1) n) ≡ 1) e (let h = times_head f (count_up (a + 1) n) in let z = count_below f (a + 1) n (omega arith) in omega arith)
  | inr d ↦ times_other f a (count_up (a + 1) n) (λ i. d (sym i)) ∙ count_once f (a + 1) n (omega arith) (omega arith)
]

count_some : (f a n : ℕ) → 0 < times f (count_up a n) → (a ≤ f) × (f < a + n)
count_some f a zero l = absurd (omega arith)
count_some f a (suc n) l = elim (cases_eq f a) [
  | inl e ↦ (omega arith, omega arith)
  | inr d ↦ (let t = times_other f a (count_up (a + 1) n) (λ i. d (sym i)) in let k = count_some f (a + 1) n (omega arith) in (omega arith, omega arith))
]

pub start_owner : (images : List Image) (first : List Starting) (frames : ℕ) → OwnsFrames (start_placement images first frames)
start_owner images first frames =
    let size : length (start_placement images first frames).holds ≡ frames = length-replicate frames None in
    let empty : (f : ℕ) → seated (start_placement images first frames) f ≡ 0 = λ f. ap (seated_of (start_placement images first frames) f) (no_page frames f) in
    record {
      once = λ f b. let a = count_once f 1 frames (let l = b.0 in omega arith) (let l = b.1 in let n = size in omega arith) in let s = empty f in omega arith;
      frames = λ f l. let k = count_some f 1 frames l in (let m = k.0 in omega arith, let m = k.1 in let n = size in omega arith);
      names = λ q f e. none_some f (sym (ap frame_of (start_blank images first frames q).0) ∙ e);
      named = λ f q e. none_some q (sym (no_page frames f) ∙ e);
      listed = λ f q l e. none_some q (sym (no_page frames f) ∙ e);
      moves = tt;
      dirty = λ q e. absurd (let k : true ≡ false = sym e ∙ ap (is_marked_dirty q) (start_blank images first frames q).1 ∙ marked_false q in cc);
    }

-- The hands stand a quarter of the frames apart.
pub start_hands : (images : List Image) (first : List Starting) (frames : ℕ) → 0 < frames → HandsStand (start_placement images first frames)
start_hands images first frames l =
    let size : length (start_placement images first frames).holds ≡ frames = length-replicate frames None in
    record {
      low = omega arith;
      high = let n = size in omega arith;
      ahead = sym (ap (λ (n : ℕ). walk n (n / 4) 1) size ∙ walk_up frames (frames / 4) 1 (omega arith));
    }

-- Text is aside, shared or not.
pub start_aside : (images : List Image) (first : List Starting) (frames : ℕ) → TextAside (start_placement images first frames)
start_aside images first frames image v z = let b = start_blank images first frames (Text image v) in record { unsaved = b.1; rests = inl b.0 }
