-- Cuts in which each watched process is in a wanted state (Garg and Waldecker 1994). Assumes nothing.
use Rattle.std.specs.Prelude.{◌≡◌, ℕ, ◌+◌, ◌/◌, ◌%◌, ◌^◌, ◌<◌, ◌≤◌, Bool, true, cond, not, ◌&&◌, List, length, ◌==◌, nat_le, nat_lt}
use Rattle.lattice.specs.First.{first}
use Rattle.lattice.specs.declared.condition.Reply.{Reply}
use Rattle.lattice.specs.declared.condition.Reply.TheVariants.{Holds, Lift, Never}
use Rattle.payload.specs.declared.wish.Wish.{Wish}
use Rattle.payload.specs.Marks.{wanted_by}
use Rattle.trace.specs.declared.event.Event.{Event}
use Rattle.trace.specs.Events.{event, by, total, number, nth}
use Rattle.cuts.specs.Cuts.{Within, beyond}

-- process i is watched: its bit is set, at weight 2 to the i
abbrev pub IsWatched : ℕ → ℕ → Type 0
IsWatched watch i = watch / 2 ^ i % 2 ≡ 1

-- state h of process i is wanted: h is at least 1, and the payload of its event h is wanted
pub record Wanted (es : List Event) (wish : Wish) (i h : ℕ) : Type 0 where
  pub started : 1 ≤ h
  pub at : ℕ
  pub there : at < length es
  pub of : by es at ≡ i
  pub is : number es at ≡ h
  pub wanted : wanted_by wish (event es at).payload ≡ true

-- the same as a test
abbrev pub state_wanted : List Event → Wish → ℕ → ℕ → Bool
state_wanted es wish i h = nat_le 1 h && (nat_le h (total es i) && wanted_by wish (event es (nth es i h)).payload)

pub record Watched (n : ℕ) (es : List Event) (wish : Wish) (watch : ℕ) (h : ℕ → ℕ) : Type 0 where
  pub within : Within n es h
  pub wanted : (i : ℕ) → i < n → IsWatched watch i → Wanted es wish i (h i)

-- place i is the lowest watched place in an unwanted state
pub record LowestUnwanted (n : ℕ) (es : List Event) (wish : Wish) (watch : ℕ) (h : ℕ → ℕ) (i : ℕ) : Type 0 where
  pub place : i < n
  pub watched : IsWatched watch i
  pub unwanted : Wanted es wish i (h i) → ⊥
  pub lowest : (k : ℕ) → k < i → IsWatched watch k → Wanted es wish k (h k)

-- the reply in words: "never" beyond the events; else the lowest watched place in an unwanted state is lifted to the least later
-- wanted height, and without one the reply is "never"
pub data WatchedSays (n : ℕ) (es : List Event) (wish : Wish) (watch : ℕ) (h : ℕ → ℕ) : Reply → Type 0 where
  past : (i : ℕ) → i < n → total es i < h i → WatchedSays n es wish watch h Never
  all : Watched n es wish watch h → WatchedSays n es wish watch h Holds
  later : Within n es h → (i q : ℕ) → LowestUnwanted n es wish watch h i → h i < q → Wanted es wish i q → ((k : ℕ) → h i < k → k < q → Wanted es wish i k → ⊥)
      → WatchedSays n es wish watch h (Lift (i, q))
  nothing : Within n es h → (i : ℕ) → LowestUnwanted n es wish watch h i → ((k : ℕ) → h i < k → Wanted es wish i k → ⊥) → WatchedSays n es wish watch h Never

-- the least wanted height of process i from h on, one past its events if there is none
abbrev pub next_wanted_state : List Event → Wish → ℕ → ℕ → ℕ
next_wanted_state es wish i h = first (state_wanted es wish i) h (total es i + 1)

abbrev pub unwanted : List Event → Wish → ℕ → (ℕ → ℕ) → ℕ → Bool
unwanted es wish watch h i = watch / 2 ^ i % 2 == 1 && not (state_wanted es wish i (h i))

-- the reply, computed
abbrev pub watched_reply : ℕ → List Event → Wish → ℕ → (ℕ → ℕ) → Reply
watched_reply n es wish watch h =
    let i = first (unwanted es wish watch h) 0 n in
    let q = next_wanted_state es wish i (h i + 1) in
    cond (beyond n es h) Never (cond (nat_lt i n) (cond (nat_le q (total es i)) (Lift (i, q)) Never) Holds)
