-- The outcomes of tasks, the last one first.
use Rattle.std.proofs.Common.{◌≡◌, ℕ, ◌-◌, ◌<◌, List, length, get_or, sym, ◌∙◌, arith, map, reverse}
use Rattle.std.proofs.lemmas.List.{length-map, length-reverse, get_or-map, get_or-reverse}
use Rattle.hv_threads.specs.Phase.{IsDoneAt, EachDone, done_of}
use Rattle.hv_threads.specs.declared.phase.End.TheVariants.{Finished}
use Rattle.hv_threads.specs.declared.phase.Task.{Task}

pub phase_done : {L : Type 0} (tasks ran : List (Task L)) → length ran ≡ length tasks → ((i : ℕ) (d : Task L) → i < length tasks → IsDoneAt (get_or tasks i d) (get_or ran i d))
    → EachDone (map (λ (s : Task L). s.work) (reverse tasks)) (map done_of (reverse ran))
phase_done {L} tasks ran count did =
    let works = length-map (reverse tasks) (λ (s : Task L). s.work) ∙ length-reverse tasks in
    record {
      count = length-map (reverse ran) (λ (s : Task L). done_of s) ∙ length-reverse ran ∙ count ∙ sym works;
      each = λ i w d h.
          let s : Task L = record { work = w; done = 0; end = Finished } in
          let less : i < length tasks = omega (arith, works) in
          rw (
            get_or-map (λ (x : Task L). x.work) (reverse tasks) i s w (omega (arith, length-reverse tasks)),
            get_or-reverse tasks i s less,
            get_or-map (λ (x : Task L). done_of x) (reverse ran) i s d (omega (arith, length-reverse ran)),
            get_or-reverse ran i s (omega arith),
            count,
          )
          (did (length tasks - 1 - i) s (omega arith));
    }
