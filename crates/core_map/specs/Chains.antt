-- When hash chains have each frame under the text page that it holds, and what walks along one find.
use Rattle.std.specs.Prelude.{◌≡◌, ℕ, ◌+◌, ◌*◌, ◌%◌, ◌<◌, ◌≤◌, ◌^◌, List, [], ◌∷◌, length, slice_index, slice_index_or, Option, Some, None, if◌then◌else◌, ◌==◌}
use Rattle.vm_facts.specs.Lists.{times}
use Rattle.core_map.specs.declared.text_index.TextKey.{TextKey}
use Rattle.core_map.specs.declared.text_index.TextIndex.TheInside.{Inside}

-- the chain, of so many, in which the frame of a text page stands
abbrev pub bucket_of : ℕ → TextKey → ℕ
bucket_of chains key = (key.image * 4096 + key.v) % chains

-- the key of frame f
abbrev pub key_at : List (Option TextKey) → ℕ → Option TextKey
key_at keys f = slice_index_or keys f None

-- how often a frame with this key stands in chain b
abbrev pub listings_in : ℕ → ℕ → Option TextKey → ℕ
listings_in chains b None = 0
listings_in chains b (Some key) = if bucket_of chains key == b then 1 else 0

-- the links lead from a through xs to none
abbrev pub Way : List ℕ → ℕ → List ℕ → Type 0
Way next a [] = slice_index next a ≡ 0
Way next a (x ∷ xs) = (slice_index next a ≡ x) × Way next x xs

-- the links lead from a through xs, the last of which is b
abbrev pub Leads : List ℕ → ℕ → List ℕ → ℕ → Type 0
Leads next a [] b = a ≡ b
Leads next a (x ∷ xs) b = (slice_index next a ≡ x) × Leads next x xs b

-- chain b has each frame whose key belongs there once
pub record IsChain (chains : ℕ) (links : List ℕ) (keys : List (Option TextKey)) (b : ℕ) : Type 0 where
  pub chain : List ℕ
  pub way : Way links (length keys + b) chain
  pub listed : (f : ℕ) → times f chain ≡ listings_in chains b (key_at keys f)

-- each chain has the frames whose keys belong there, with a link for each frame and each chain; 0 is no frame
pub record IsIndexed (count : ℕ) (links : List ℕ) (keys : List (Option TextKey)) : Type 0 where
  pub has_none : 0 < length keys
  pub small : length keys ≤ 2 ^ 32
  pub links_length : length links ≡ length keys + count
  pub none : key_at keys 0 ≡ None
  pub some : 0 < count
  pub chains : (b : ℕ) → b < count → IsChain count links keys b

-- the text page of each frame, where it holds one
abbrev pub keys_of : Inside → List (Option TextKey)
keys_of a = a.keys.items

-- this is so of an index, by its fields
abbrev pub IsIndex : Inside → Type 0
IsIndex a = IsIndexed a.chains a.links.items a.keys.items

-- p stands right before f on the way from a
pub record IsBefore (links : List ℕ) (a f p : ℕ) : Type 0 where
  pub passed : List ℕ
  pub leads : Leads links a passed p
  pub no_zero : times 0 passed ≡ 0
  pub next : slice_index links p ≡ f

-- f stands on the way from a, which passes each of at most `frames` frames once
pub record IsOnWay (links : List ℕ) (frames a f : ℕ) : Type 0 where
  pub chain : List ℕ
  pub way : Way links a chain
  pub start_within : a < length links
  pub enough : frames ≤ length links
  pub short : length chain ≤ frames
  pub within : (g : ℕ) → frames ≤ g → times g chain ≡ 0
  pub no_zero : times 0 chain ≡ 0
  pub on_way : 0 < times f chain
