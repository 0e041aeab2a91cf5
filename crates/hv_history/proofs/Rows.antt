-- Rows of a history, once one comes or a head asks for another element.
use Rattle.std.proofs.Common.{◌≡◌, ℕ, ◌+◌, ◌-◌, ◌<◌, ◌≤◌, inl, inr, List, [], ◌∷◌, ◌++◌, Some, length, map, take, drop, get_or, set, refl, sym, ap, subst, ◌∙◌, arith, append_assoc, take_all}
use Rattle.std.proofs.Common.{length-drop, get_or-drop, length-set, get_or-set_same, get_or-set_other, slice_get, option_map}
use Rattle.std.proofs.Math.Seq.{drop-append_seam}
use Rattle.std.proofs.lemmas.Bool.{cases_eq}
use Rattle.std.proofs.lemmas.List.{length-map, take-append-le, drop-append-le, drop_more, map-append, get_or_append_left}
use Rattle.std.proofs.lemmas.List.Elements.{All-head, All-tail}
use Rattle.std.proofs.lemmas.Option.{get_or_from_slice_get, slice_get_read, slice_get-map}
use Rattle.hv_policy.specs.Parts.{reply_of}
use Rattle.hv_policy.specs.declared.event.Action.{Action}
use Rattle.hv_policy.specs.declared.event.Action.TheVariants.{Hypercall}
use Rattle.hv_policy.specs.declared.event.Event.{Event}
use Rattle.hv_policy.specs.declared.reply.Reply.{Reply}
use Rattle.hv_history.specs.Row.{ArePlaced, DifferInRcx, IsPlaced, asking, bytes_at, entries_of, entry_of, head_at, rcx_in, with_rcx}
use Rattle.hv_history.specs.declared.entry.Entry.{Entry}
use Rattle.hv_history.specs.declared.row.Row.{Row}

-- what stands within the bytes isn't moved by more of them
bytes-more : (bytes more : List ℕ) (start len : ℕ) → start + len ≤ length bytes → bytes_at (bytes ++ more) start len ≡ bytes_at bytes start len
bytes-more bytes more start len within =
    ap (take len) (drop-append-le start bytes more (omega arith))
    ∙ take-append-le len (drop start bytes) more (omega (arith, length-drop start bytes))

-- bytes that come after others stand there
bytes-last : (bytes more : List ℕ) (start len : ℕ) → start ≡ length bytes → len ≡ length more → bytes_at (bytes ++ more) start len ≡ more
bytes-last bytes more start len starts is =
    ap (λ n. take len (drop n (bytes ++ more))) starts ∙ ap (take len) (drop-append_seam bytes more) ∙ take_all len more (omega arith)

-- bytes that are read from a place on
pub bytes-read : (bytes all : List ℕ) (start len : ℕ) → bytes ≡ all → take (start + len - start) (drop start bytes) ≡ bytes_at all start len
bytes-read bytes all start len is = let many : start + len - start ≡ len = omega arith in λ i. take (many i) (drop start (is i))

-- what was read of the rows is placed, too
pub row_placed : (heads outputs : ℕ) (rows : List Row) (i : ℕ) (row : Row) → ArePlaced heads outputs rows → i < length rows → row ≡ get_or rows i row → IsPlaced heads outputs row
row_placed heads outputs rows i row placed less is = subst (IsPlaced heads outputs) (sym is) (placed i row less)

-- rows stand for the same where each that is placed does
each_row : {X : Type 0} (f g : Row → X) (heads outputs : ℕ) (rows : List Row) → ArePlaced heads outputs rows → ((row : Row) → IsPlaced heads outputs row → f row ≡ g row) → map f rows ≡ map g rows
each_row f g heads outputs [] placed same = refl
each_row f g heads outputs (row ∷ rows) placed same =
    let here = same row (All-head (IsPlaced heads outputs) row rows placed) in
    let rest = each_row f g heads outputs rows (All-tail (IsPlaced heads outputs) row rows placed) same in
    λ i. here i ∷ rest i

module _ {A : Type 0} where
  -- rows stand for the same among more heads
  pub more_heads : (heads more : List (Event A)) (outputs : List ℕ) (count : ℕ) (rows : List Row) → ArePlaced (length heads) count rows
      → entries_of {A = A} (heads ++ more) outputs rows ≡ entries_of heads outputs rows
  more_heads heads more outputs count rows placed =
      each_row _ _ (length heads) count rows placed
      (λ row is.
      let head = get_or_append_left heads more (head_at [] 0) row.head is.head in
      λ i. record { event = asking (head i) row.rcx; reply = reply_of row.answer (bytes_at outputs row.output row.output_len) })

  -- and among more outputs
  more_outputs : (heads : List (Event A)) (outputs more : List ℕ) (count : ℕ) (rows : List Row) → ArePlaced count (length outputs) rows
      → entries_of {A = A} heads (outputs ++ more) rows ≡ entries_of heads outputs rows
  more_outputs heads outputs more count rows placed =
      each_row _ _ count (length outputs) rows placed
      (λ row is.
      let output = bytes-more outputs more row.output row.output_len is.output in
      λ i. record { event = asking (head_at heads row.head) row.rcx; reply = reply_of row.answer (output i) })

  -- one row more, whose output stands after the others, is one entry more
  pub pushed : (heads : List (Event A)) (outputs output : List ℕ) (count : ℕ) (rows : List Row) (row : Row) → ArePlaced count (length outputs) rows
      → row.output ≡ length outputs → row.output_len ≡ length output
      → entries_of {A = A} heads (outputs ++ output) (rows ++ row ∷ [])
      ≡ entries_of heads outputs rows ++ record { event = asking (head_at heads row.head) row.rcx; reply = reply_of row.answer output } ∷ []
  pushed heads outputs output count rows row placed starts len =
      let rest = more_outputs heads outputs output count rows placed in
      let last = bytes-last outputs output row.output row.output_len starts len in
      map-append (entry_of {A = A} heads (outputs ++ output)) rows (row ∷ [])
      ∙ (λ i. rest i ++ record { event = asking (head_at heads row.head) row.rcx; reply = reply_of row.answer (last i) } ∷ [])

  -- an event with one RCX and then another has the other
  asks_again : (what : Action A) (one other : ℕ) → with_rcx (with_rcx what one) other ≡ with_rcx what other
  asks_again (Hypercall frame) one other = refl
  asks_again what one other = refl

  again : (e : Event A) (one other : ℕ) → asking (asking e one) other ≡ asking e other
  again e one other = λ i. record { by = e.by; what = asks_again e.what one other i }

  -- events that differ in RCX alone are the same under that of one of them
  pub same_but : (one other : Event A) (rcx : ℕ) → asking one 0 ≡ asking (asking other rcx) 0 → asking one rcx ≡ asking other rcx
  same_but one other rcx same =
      sym (again one 0 rcx) ∙ ap (λ (e : Event A). asking e rcx) same ∙ again (asking other rcx) 0 rcx ∙ again other rcx rcx

  own_rcx : (what : Action A) → with_rcx what (rcx_in what) ≡ what
  own_rcx (Hypercall frame) = refl
  own_rcx what = refl

  -- events that differ in RCX alone are the same under any RCX
  pub under_any : (one other : Event A) (rcx : ℕ) → asking one 0 ≡ asking other 0 → asking one rcx ≡ asking other rcx
  under_any one other rcx alike = sym (again one 0 rcx) ∙ ap (λ (e : Event A). asking e rcx) alike ∙ again other 0 rcx

  -- so that the one serves as the other's head
  pub serves : (head event : Event A) → asking head 0 ≡ asking event 0 → asking head (rcx_in event.what) ≡ event
  serves head event alike = under_any head event (rcx_in event.what) alike ∙ (λ i. record { by = event.by; what = own_rcx event.what i })

  -- events whose heads are alike are the same under the same RCX
  pub same_under : (one two : Event A) (r s : ℕ) → asking one 0 ≡ asking two 0 → r ≡ s → asking one r ≡ asking two s
  same_under one two r s alike same = under_any one two r alike ∙ ap (asking two) same

  -- accesses are under any two
  pub same_access : (one two : Event A) (r s : ℕ) → asking one 0 ≡ asking two 0 → ((rcx : ℕ) → with_rcx one.what rcx ≡ one.what) → asking one r ≡ asking two s
  same_access one two r s alike access = (λ i. record { by = one.by; what = (access r ∙ sym (access s)) i }) ∙ under_any one two s alike

  -- calls are under no others
  pub same_rcx : (one two : Event A) (r s : ℕ) → asking one 0 ≡ asking two 0 → ((rcx : ℕ) → rcx_in (with_rcx one.what rcx) ≡ rcx) → asking one r ≡ asking two s → r ≡ s
  same_rcx one two r s alike call is = sym (call r) ∙ ap (λ (e : Event A). rcx_in e.what) (is ∙ sym (under_any one two s alike)) ∙ call s

  -- an entry among those that differ from an event in RCX alone
  pub differs_at : (event : Event A) (es : List (Entry A)) (from at : ℕ) (e : Entry A) → DifferInRcx event (drop from es) → from ≤ at → at < length es → slice_get es at ≡ Some e
      → asking e.event 0 ≡ asking event 0
  differs_at event es from at e all above less there =
      let place : from + (at - from) ≡ at = omega arith in
      subst (λ (x : Entry A). asking x.event 0 ≡ asking event 0)
      (get_or-drop from es (at - from) e ∙ ap (λ n. get_or es n e) place ∙ get_or_from_slice_get es at e e there)
      (all (at - from) e (omega (arith, length-drop from es)))

  -- the entries of another history come over one by one
  pub one_over : (es old new all : List (Entry A)) (at : ℕ) (e : Entry A) (event : Event A) (reply : Reply) → at < length es → slice_get es at ≡ Some e
      → new ≡ old ++ record { event = event; reply = reply } ∷ [] → event ≡ e.event → reply ≡ e.reply → old ++ drop at es ≡ all → new ++ drop (at + 1) es ≡ all
  one_over es old new all at e event reply less there pushed event_is reply_is so_far =
      let rest = drop (at + 1) es in
      let next : drop at es ≡ e ∷ rest = drop_more es at e less ∙ ap (λ (x : Entry A). x ∷ rest) (get_or_from_slice_get es at e e there) in
      ap (λ (xs : List (Entry A)). xs ++ rest) pushed ∙ append_assoc old (record { event = event; reply = reply } ∷ []) rest
      ∙ (λ i. old ++ record { event = event_is i; reply = reply_is i } ∷ rest)
      ∙ sym (ap (λ (xs : List (Entry A)). old ++ xs) next) ∙ so_far

  -- what was put into a place stands there
  pub changed : (heads : List (Event A)) (at : ℕ) (none event : Event A) → at < length heads → head_at (set (set heads at none) at event) at ≡ event
  changed heads at none event less = get_or-set_same (set heads at none) at event (head_at [] 0) (omega (arith, length-set heads at none))

  -- what was read from a place is the head there
  pub head_is : (heads : List (Event A)) (at : ℕ) (e : Event A) → at < length heads → e ≡ get_or heads at e → head_at heads at ≡ e
  head_is heads at e less is = get_or_from_slice_get heads at e (head_at [] 0) (slice_get_read heads (length heads) at e refl less is)

  -- a head that asks for another element is the event that it was under any other RCX
  asks : (heads : List (Event A)) (at place rcx : ℕ) (none event : Event A) → at < length heads → asking event rcx ≡ asking (head_at heads at) rcx
      → asking (head_at (set (set heads at none) at event) place) rcx ≡ asking (head_at heads place) rcx
  asks heads at place rcx none event less alike =
      elim (cases_eq place at) [
        | inl same ↦
            ap (λ n. asking (head_at (set (set heads at none) at event) n) rcx) same
            ∙ ap (λ (e : Event A). asking e rcx) (changed heads at none event less)
            ∙ alike ∙ sym (ap (λ n. asking (head_at heads n) rcx) same)
        | inr other ↦
            ap (λ (e : Event A). asking e rcx)
            (get_or-set_other (set heads at none) at place event (head_at [] 0) other ∙ get_or-set_other heads at place none (head_at [] 0) other)
      ]

  -- so that rows stand for the same
  pub restarted : (heads : List (Event A)) (outputs : List ℕ) (rows : List Row) (at : ℕ) (none event : Event A) → at < length heads
      → ((rcx : ℕ) → asking event rcx ≡ asking (head_at heads at) rcx)
      → entries_of {A = A} (set (set heads at none) at event) outputs rows ≡ entries_of heads outputs rows
  restarted heads outputs rows at none event less alike = λ i. map
      (λ row. record { event = asks heads at row.head row.rcx none event less (alike row.rcx) i; reply = reply_of row.answer (bytes_at outputs row.output row.output_len) }) rows

  -- what a row stands for is the entry at its place
  pub entry_at : (heads : List (Event A)) (outputs : List ℕ) (rows : List Row) (at : ℕ) (row : Row) → at < length (entries_of {A = A} heads outputs rows) → row ≡ get_or rows at row
      → slice_get (entries_of heads outputs rows) at ≡ Some (entry_of {A = A} heads outputs row)
  entry_at heads outputs rows at row less is =
      slice_get-map _ rows at ∙ ap (option_map _) (slice_get_read rows _ at row (length-map rows (entry_of {A = A} heads outputs)) less is)
