-- Elements of a list taken one after another, each giving entries to the table: any elements, and the entries of the old round, from
-- the place of a head's first one to the place after its last.
use Rattle.std.specs.Prelude.{ℕ, suc, ◌+◌, ◌<◌, ◌≤◌, ◌≡◌, false, length, get_or, drop}
use Rattle.std.proofs.Common.{arith, ◌∙◌}
use Rattle.std.proofs.Math.Path.{ap}
use mathlib.Core.List.{List, [], map, flat_map}
use Rattle.game.specs.Game.{PushdownGame}
use Rattle.table.specs.Table.{Entry, key}
use Rattle.table.specs.Rows.{Placed}
use Rattle.judge.specs.Worth.{entry_of_head}
use Rattle.rounds.specs.Rounds.{entry_at}
use Rattle.rounds.specs.Growing.{Growing, growing}
use Rattle.rounds.specs.GrowingLaws.{HeldBy}
use Rattle.rounds.proofs.GrowingLaws.{all_stay}
use Rattle.rounds.specs.InsertLaws.{no_entry}
use Rattle.enumeration.specs.Jobs.{Entered, Finished}
use Rattle.enumeration.specs.JobLaws.{grown-from, from_end}
use Rattle.rounds.proofs.Growing.{full-any}
use Rattle.rounds.proofs.StoredRows.{over-full}
use Rattle.enumeration.specs.HeadPlaces.{before_head, after-head, skip-front, skip-end}
use Rattle.enumeration.specs.declared.runs.Job.{Job}

module _ (g : PushdownGame) (old : List Entry) (birthdate n : ℕ) (job : Job) (rules work : List ℕ) where
  -- the entry of a union
  abbrev pub given : ℕ → Entry
  given = entry_at job.state job.letter birthdate job.field

  -- an enumeration goes on with what another left
  goes_on : (words : List ℕ) (count : ℕ) (memo : List ℕ) (s : Growing) (es : List Entry) (words' : List ℕ) (count' : ℕ) (memo' : List ℕ)
      → Entered g old birthdate n job rules work words count memo s → Finished g old birthdate n es s words' count' memo'
      → Entered g old birthdate n job rules work words' count' memo' (growing n es s)
  goes_on words count memo s es words' count' memo' h f = record { stands = h.stands; filled = f.filled; memoed = f.memoed }

  -- Elements of a list taken one after another, each giving a list: the table grown so far, and what is still to come.
  pub record Taking {A : Type 0} (xs : List A) (f : A → List ℕ) (s : Growing) (i : ℕ) (words : List ℕ) (count : ℕ) (memo : List ℕ) : Type 0 where
    pub now : Growing
    pub entered : Entered g old birthdate n job rules work words count memo now
    pub kept : (es : List Entry) → HeldBy n es s → HeldBy n es now
    pub rest : growing n (map given (flat_map f xs)) s ≡ growing n (map given (flat_map f (drop i xs))) now

  module _ {A : Type 0} (xs : List A) (f : A → List ℕ) (s : Growing) (i : ℕ) (words : List ℕ) (count : ℕ) (memo : List ℕ) (c : Taking xs f s i words count memo) where
    pub take_next : (d : A) → i < length xs → (words' : List ℕ) (count' : ℕ) (memo' : List ℕ)
        → Finished g old birthdate n (map given (f (get_or xs i d))) c.now words' count' memo' → Taking xs f s (i + 1) words' count' memo'
    take_next d l words' count' memo' e =
        let es = map given (f (get_or xs i d)) in
        record {
          now = growing n es c.now;
          entered = goes_on words count memo c.now es words' count' memo' c.entered e;
          kept = λ fs held. all_stay n es fs c.now (c.kept fs held);
          rest = c.rest ∙ grown-from n given f d i xs c.now l;
        }

    -- none is left to take, or the table is full
    pub all-taken : length xs ≤ i → Finished g old birthdate n (map given (flat_map f xs)) s words count memo
    unfolding growing
    all-taken l =
        let e = c.rest ∙ ap (λ (es : List ℕ). growing n (map given es) c.now) (from_end f i xs l) in
        record { filled = rw e c.entered.filled; memoed = rw e c.entered.memoed }

    pub none-fits : count ≡ suc n → Finished g old birthdate n (map given (flat_map f xs)) s words count memo
    none-fits over =
        let e = c.rest ∙ full-any n (map given (flat_map f (drop i xs))) c.now (over-full n words count c.now c.entered.filled over) in
        record { filled = rw e c.entered.filled; memoed = rw e c.entered.memoed }

  -- the entries of the old round
  abbrev pub Scanning : (Entry → List ℕ) → Growing → ℕ → List ℕ → ℕ → List ℕ → Type 0
  Scanning f s i words count memo = Taking old f s i words count memo

  pub scan-next : (f : Entry → List ℕ) (s : Growing) (i : ℕ) (words : List ℕ) (count : ℕ) (memo : List ℕ) (c : Scanning f s i words count memo)
      → i < job.count → (words' : List ℕ) (count' : ℕ) (memo' : List ℕ)
      → Finished g old birthdate n (map given (f (get_or old i no_entry))) c.now words' count' memo' → Scanning f s (i + 1) words' count' memo'
  scan-next f s i words count memo c l words' count' memo' d =
      take_next old f s i words count memo c no_entry (omega (arith, c.entered.stands.stored.counted)) words' count' memo' d

-- The entries of a head are taken from the place of its first one to the place after its last one, where the others give nothing.
module _ (g : PushdownGame) (old : List Entry) (birthdate n : ℕ) (job : Job) (rules work : List ℕ) (f : Entry → List ℕ) (q a : ℕ) (none : (e : Entry) → entry_of_head q a e ≡ false → f e ≡ []) where
  pub scan-from : (words : List ℕ) (count : ℕ) (memo : List ℕ) (s : Growing) → Entered g old birthdate n job rules work words count memo s
      → (start : ℕ) → Placed work job.count (key q a 0) start → Scanning g old birthdate n job rules work f s start words count memo
  scan-from words count memo s h start pl =
      let st = h.stands.stored in
      record {
        now = s;
        entered = h;
        kept = λ es held. held;
        rest =
            ap (λ (l : List ℕ). growing n (map (given g old birthdate n job rules work) l) s)
            (skip-front f no_entry start old (omega (arith, pl.within, st.counted))
            (λ i l. none (get_or old i no_entry) (before_head h.stands.room work job.count old st q a start pl i l)));
      }

  pub scan-to : (s : Growing) (i : ℕ) (words : List ℕ) (count : ℕ) (memo : List ℕ) → Scanning g old birthdate n job rules work f s i words count memo
      → (end : ℕ) → Placed work job.count (key q a 4294967296) end → end ≤ i
      → Finished g old birthdate n (map (given g old birthdate n job rules work) (flat_map f old)) s words count memo
  unfolding growing
  scan-to s i words count memo c end pl l =
      let st = c.entered.stands.stored in
      let e =
      c.rest
      ∙ ap (λ (l : List ℕ). growing n (map (given g old birthdate n job rules work) l) c.now)
      (skip-end f no_entry i old
      (λ k m inside. none (get_or old k no_entry) (after-head c.entered.stands.room work job.count old st q a end pl k (omega arith) inside)))
      in
      record { filled = rw e c.entered.filled; memoed = rw e c.entered.memoed }
