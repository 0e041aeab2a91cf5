-- The events of an audit, one after another.
use Rattle.std.proofs.Common.{◌≡◌, ℕ, ◌+◌, ◌⊎◌, inl, inr, List, [], ◌∷◌, ◌++◌, length, append_assoc, append-nil, refl, sym, ap, ◌∙◌, subst, arith, true, codes, Option, Global}
use Rattle.std.specs.Io.KnownBytes.{Keeps}
use Rattle.std.proofs.KnownBytes.{Appends-kept, Appends-nil}
use Rattle.hv_check.proofs.AfterLine.{one_more}
use Rattle.hv_check.specs.Legal.{AreLines, IsEnd}
use Rattle.hv_check.specs.Takes.{IsNext, Takes}
use Rattle.hv_explain.proofs.BrokenOff.{part_then, until_all, until_kept, until_map}
use Rattle.hv_explain.proofs.WrittenLines.{told_then}
use Rattle.hv_explain.specs.Cut.{IsCutNext}
use Rattle.hv_explain.specs.Followed.{HasFollowed, HasFollowedText, IsFollowed}
use Rattle.hv_explain.specs.Part.{FollowsFirst, FollowsPart, FollowsPartOf, HasPutUntil}
use Rattle.hv_explain.specs.Written.{AreTold, HasWritten, Telling}
use Rattle.hv_history.specs.Kept.{IsRun, Kept}
use Rattle.hv_history.specs.declared.entry.Entry.{Entry}
use Rattle.hv_phases.specs.Schedule.{StandsFor}
use Rattle.hv_phases.specs.declared.schedule.Schedule.{Schedule}
use Rattle.hv_policy.specs.declared.config.Config.{Config}
use Rattle.hv_run.specs.declared.failure.Failure.{Failure}
use Rattle.hv_script.specs.Script.{Said}
use Rattle.hv_script.specs.declared.line.Line.{Line}
use Rattle.hv_text.specs.Audit.{entries_text, entry_text}

-- the lines of events, and of one more
entries-push : (n : ℕ) (es : List (Entry Global)) (e : Entry Global) (rest : List ℕ)
    → entries_text n es ++ (entry_text (n + length es) e ++ (codes "\n" ++ rest)) ≡ entries_text n (es ++ e ∷ []) ++ rest
entries-push n [] e rest =
    ap (λ (k : ℕ). entry_text k e ++ (codes "\n" ++ rest)) (omega arith) ∙ sym (append_assoc (entry_text n e) (codes "\n") rest)
    ∙ ap (λ (l : List ℕ). l ++ rest) (sym (append-nil (entry_text n e ++ codes "\n")))
entries-push n (x ∷ es) e rest =
    let own = entry_text n x ++ codes "\n" in
    append_assoc own (entries_text (n + 1) es) (entry_text (n + length (x ∷ es)) e ++ (codes "\n" ++ rest))
    ∙ ap (λ (l : List ℕ). own ++ l)
    (ap (λ (k : ℕ). entries_text (n + 1) es ++ (entry_text k e ++ (codes "\n" ++ rest))) (omega arith) ∙ entries-push (n + 1) es e rest)
    ∙ sym (append_assoc own (entries_text (n + 1) (es ++ e ∷ [])) rest)

-- one event more was taken
takes_more : (lines : List (Line Global)) (es : List (Entry Global)) (mid : List (Line Global)) (e : Entry Global) (left : List (Line Global)) → Takes lines es mid → IsNext mid e left
    → Takes lines (es ++ e ∷ []) left
takes_more lines [] mid e left is next = (left, subst (λ (ls : List (Line Global)). IsNext ls e left) is next, refl)
takes_more lines (x ∷ es) mid e left is next = (is.0, is.1, takes_more is.0 es mid e left is.2 next)

-- The events so far were explained, each the next one of its processor. The schedule stands for the lines that are left, and what is left of the audit continues theirs.
pub record SoFar (tells : Telling) (lines : List (Line Global)) (audit : List ℕ) (old : Kept Global) (before : Option (List ℕ)) (kept : Kept Global) (schedule : Schedule) (text : List ℕ)
    (after : Option (List ℕ)) : Type 0 where
  pub run : IsRun kept
  pub told : HasWritten tells kept.history old kept before after
  pub left : List (Line Global)
  pub takes : Takes lines kept.history left
  pub stands : StandsFor schedule left
  pub begins : audit ≡ entries_text 1 kept.history ++ text
  pub read : (es : List (Entry Global)) → AreLines true true (length kept.history) es text → AreLines true true 0 (kept.history ++ es) audit

module _ (tells : Telling) (said : Said Global) (audit : List ℕ) (old : Kept Global) (before : Option (List ℕ)) (none : old.history ≡ []) where
  pub so_far_none : (schedule : Schedule) → IsRun old → StandsFor schedule said.lines → SoFar tells said.lines audit old before old schedule audit before
  so_far_none schedule run stands = record {
    run = run;
    told = record {
      history = ap (λ (l : List (Entry Global)). l ++ old.history) (sym none);
      config = refl;
      limit = refl;
      text = [];
      told = subst (λ (es : List (Entry Global)). AreTold tells old.config old.history es []) (sym none) refl;
      wrote = Appends-nil before;
    };
    left = said.lines;
    takes = subst (λ (es : List (Entry Global)). Takes said.lines es said.lines) (sym none) refl;
    stands = stands;
    begins = subst (λ (es : List (Entry Global)). audit ≡ entries_text 1 es ++ audit) (sym none) refl;
    read = λ es is.
        subst (λ (l : List (Entry Global)). AreLines true true 0 (l ++ es) audit) (sym none)
        (subst (λ (n : ℕ). AreLines true true n es audit) (ap length none) is);
  }

  begins_more : (kept new : Kept Global) (e : Entry Global) (text rest : List ℕ) → audit ≡ entries_text 1 kept.history ++ text → new.history ≡ kept.history ++ e ∷ []
      → text ≡ entry_text (length kept.history + 1) e ++ (codes "\n" ++ rest) → audit ≡ entries_text 1 new.history ++ rest
  begins_more kept new e text rest begins grown line =
      begins ∙ ap (λ (t : List ℕ). entries_text 1 kept.history ++ t) (line ∙ ap (λ (k : ℕ). entry_text k e ++ (codes "\n" ++ rest)) (omega arith))
      ∙ entries-push 1 kept.history e rest ∙ ap (λ (es : List (Entry Global)). entries_text 1 es ++ rest) (sym grown)

  pub so_far_more : (kept new : Kept Global) (schedule went : Schedule) (text rest : List ℕ) (mid after : Option (List ℕ)) → SoFar tells said.lines audit old before kept schedule text mid
      → IsFollowed tells kept new schedule went text rest mid after → SoFar tells said.lines audit old before new went rest after
  so_far_more kept new schedule went text rest mid after at one =
      let e = one.entry in
      let grown = one.told.history in
      let next = one.next at.left at.stands in
      record {
        run = one.run;
        told = subst (λ (es : List (Entry Global)). HasWritten tells es old new before after) (sym grown) (told_then tells kept.history (e ∷ []) old kept new before mid after at.told one.told);
        left = next.left;
        takes = subst (λ (es : List (Entry Global)). Takes said.lines es next.left) (sym grown) (takes_more said.lines kept.history at.left e next.left at.takes next.next);
        stands = next.stands;
        begins = begins_more kept new e text rest at.begins grown one.line;
        read = λ es is.
            subst (λ (l : List (Entry Global)). AreLines true true 0 l audit) (sym (ap (λ (l : List (Entry Global)). l ++ es) grown ∙ append_assoc kept.history (e ∷ []) es))
            (at.read (e ∷ es) (rest, one.line, subst (λ (n : ℕ). AreLines true true n es rest) (one_more kept new e grown) is));
      }

  -- the audit ends
  pub followed : (kept : Kept Global) (schedule : Schedule) (text : List ℕ) (mid after : Option (List ℕ)) → old.config ≡ said.config → old.limit ≡ said.limit
      → SoFar tells said.lines audit old before kept schedule text mid
      → IsEnd true (length kept.history) text → Keeps mid after → HasFollowed tells said audit before after
  followed kept schedule text mid after config limit at end flushed = record {
    legal = record {
      kept = kept;
      run = at.run;
      config = at.told.config ∙ config;
      limit = at.told.limit ∙ limit;
      lines = (at.left, at.takes);
      told = subst (λ (es : List (Entry Global)). AreLines true true 0 es audit) (append-nil kept.history) (at.read [] end);
    };
    text = at.told.text;
    told = subst (λ (k : Config). AreTold tells k [] kept.history at.told.text) (sym at.told.config)
        (subst (λ (p : List (Entry Global)). AreTold tells old.config p kept.history at.told.text) none at.told.told);
    wrote = Appends-kept before mid after at.told.text at.told.wrote flushed;
  }

  -- what was told so far is of the first events
  so_far_first : (kept : Kept Global) (schedule : Schedule) (text : List ℕ) (mid : Option (List ℕ)) → old.config ≡ said.config → old.limit ≡ said.limit
      → (at : SoFar tells said.lines audit old before kept schedule text mid) → FollowsFirst tells said audit at.told.text
  so_far_first kept schedule text mid config limit at = record {
    kept = kept;
    run = at.run;
    config = at.told.config ∙ config;
    limit = at.told.limit ∙ limit;
    left = at.left;
    takes = at.takes;
    rest = text;
    begins = at.begins;
    told = subst (λ (k : Config). AreTold tells k [] kept.history at.told.text) config
        (subst (λ (p : List (Entry Global)). AreTold tells old.config p kept.history at.told.text) none at.told.told);
  }

  -- no more was written
  pub followed_so_far : (failure : Failure) (kept : Kept Global) (schedule : Schedule) (text : List ℕ) (mid after : Option (List ℕ)) → old.config ≡ said.config → old.limit ≡ said.limit
      → SoFar tells said.lines audit old before kept schedule text mid → Keeps mid after → HasPutUntil failure (FollowsPart tells said audit) before after
  followed_so_far failure kept schedule text mid after config limit at same =
      until_kept failure (FollowsPart tells said audit) before mid after
      (until_all failure (FollowsPart tells said audit) before mid at.told.text (inr (so_far_first kept schedule text mid config limit at)) at.told.wrote) same

  -- or a part of what is told of one event more
  pub followed_cut : (failure : Failure) (kept new : Kept Global) (schedule went : Schedule) (text : List ℕ) (mid after : Option (List ℕ)) → old.config ≡ said.config → old.limit ≡ said.limit
      → SoFar tells said.lines audit old before kept schedule text mid → Keeps mid after ⊎ IsCutNext tells failure kept new schedule went text mid after
      → HasPutUntil failure (FollowsPart tells said audit) before after
  followed_cut failure kept new schedule went text mid after config limit at (inl same) = followed_so_far failure kept schedule text mid after config limit at same
  followed_cut failure kept new schedule went text mid after config limit at (inr one) =
      let e = one.entry in
      let grown = one.told.history in
      let next = one.next at.left at.stands in
      let all = part_then tells kept.history (e ∷ []) old kept new before mid after at.told one.told in
      record {
        text = all.text;
        kind = inr (record {
          kept = new;
          run = one.run;
          config = all.config ∙ config;
          limit = all.limit ∙ limit;
          left = next.left;
          takes = subst (λ (es : List (Entry Global)). Takes said.lines es next.left) (sym grown) (takes_more said.lines kept.history at.left e next.left at.takes next.next);
          rest = one.rest;
          begins = begins_more kept new e text one.rest at.begins grown one.line;
          told = subst (λ (es : List (Entry Global)). AreTold tells said.config [] es all.text) (sym grown)
              (subst (λ (k : Config). AreTold tells k [] (kept.history ++ e ∷ []) all.text) config
              (subst (λ (p : List (Entry Global)). AreTold tells old.config p (kept.history ++ e ∷ []) all.text) none all.told));
        });
        part = all.wrote;
        whole = λ other. absurd (other one.write);
      }

-- an audit begins with the lines of its events
lines_begin : (before : ℕ) (es : List (Entry Global)) (text : List ℕ) → AreLines true true before es text → (rest : List ℕ) × (text ≡ entries_text (before + 1) es ++ rest)
lines_begin before [] text is = (text, refl)
lines_begin before (e ∷ es) text is =
    let more = lines_begin (before + 1) es is.0 is.2 in
    let own = entry_text (before + 1) e in (
      more.0,
      is.1 ∙ ap (λ (l : List ℕ). own ++ (codes "\n" ++ l)) more.1 ∙ sym (append_assoc own (codes "\n") (entries_text (before + 1 + 1) es ++ more.0))
          ∙ sym (append_assoc (own ++ codes "\n") (entries_text (before + 1 + 1) es) more.0),
    )

-- all events of an audit were told
pub followed_until : (tells : Telling) (failure : Failure) (said : Said Global) (audit : List ℕ) (u w : Option (List ℕ)) → HasFollowed tells said audit u w
    → HasPutUntil failure (FollowsPart tells said audit) u w
followed_until tells failure said audit u w is =
    let legal = is.legal in
    let begins = lines_begin 0 legal.kept.history audit legal.told in
    until_all failure (FollowsPart tells said audit) u w is.text (inr (record {
      kept = legal.kept;
      run = legal.run;
      config = legal.config;
      limit = legal.limit;
      left = legal.lines.0;
      takes = legal.lines.1;
      rest = begins.0;
      begins = begins.1 ∙ ap (λ (n : ℕ). entries_text n legal.kept.history ++ begins.0) (omega arith);
      told = subst (λ (k : Config). AreTold tells k [] legal.kept.history is.text) legal.config is.told;
    })) is.wrote

pub followed_text_until : (tells : Telling) (failure : Failure) (script audit : List ℕ) (u w : Option (List ℕ)) → HasFollowedText tells script audit u w
    → HasPutUntil failure (FollowsPartOf tells script audit) u w
followed_text_until tells failure script audit u w is =
    until_map failure (FollowsPart tells is.said audit) (FollowsPartOf tells script audit) u w (λ text told. inr (is.said, is.is, told))
    (followed_until tells failure is.said audit u w is.followed)
