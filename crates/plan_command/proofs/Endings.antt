-- What an ending says of a source that tells its input.
use Rattle.std.proofs.Common.{ℕ, ◌≡◌, ◌+◌, ◌≤◌, List, [], ◌++◌, length, Option, Some, None, refl, sym, ap, ◌∙◌, inl, inr, subst, arith, length-append}
use Rattle.std.proofs.lemmas.List.{append-nil}
use Rattle.std.proofs.KnownBytes.{Appends-nil}
use Rattle.std.specs.Io.KnownBytes.{Consumes, IsAtEnd}
use Rattle.byte_ports.specs.Taken.{TakesCount}
use Rattle.plan_command.specs.declared.request.Request.{Request}
use Rattle.plan_command.specs.declared.status.Status.{Status}
use Rattle.plan_command.specs.declared.status.Status.TheVariants as statuses
use Rattle.plan_command.specs.declared.status.Refusal.{Refusal}
use Rattle.plan_command.specs.declared.status.Stop.TheVariants as stops
use Rattle.plan_command.specs.Words.{Spells, limit_of}
use Rattle.plan_command.specs.Lines.{refused_status}
use Rattle.plan_command.specs.Commands.{Answers, Refuses}
use Rattle.plan_command.specs.Inputs.{Source, Course, ReadWhole, Reads, IsOverLong}
use Rattle.plan_command.specs.Run.{Call, ErrView, Delivered, Refused, Stopped, Ending, delivered, stopped, Ends, status_at, Says}
use Rattle.plan_command.specs.Complete.{IsHeard, IsUndisturbed, IsWithin, IsLonger, IsUnlessNoMemory, IsDue, IsByText}
use Rattle.plan_command.proofs.WordForms.{spelled_once}
use Rattle.plan_command.proofs.Exclusive.{answers_or_refuses, refuses_once}

-- what was read whole is the input that was told
whole_of_known : (input : List ℕ) (after : Option (List ℕ)) (bytes : List ℕ) → Consumes (Some input) after bytes → IsAtEnd after → input ≡ bytes
whole_of_known input None bytes taken ended = absurd taken
whole_of_known input (Some rest) bytes taken ended = taken ∙ ap (λ (r : List ℕ). bytes ++ r) ended ∙ append-nil bytes

-- so many bytes were taken of an input that is at least as long
count_of_known : (input : List ℕ) (after : Option (List ℕ)) (n : ℕ) → TakesCount (Some input) after n → n ≤ length input
count_of_known input None n taken = absurd taken.1
count_of_known input (Some rest) n taken = omega (arith, taken.2, ap length taken.1, length-append taken.0 rest)

-- a limit is one
one_limit : (o : Option ℕ) (a b : ℕ) → o ≡ Some a → o ≡ Some b → a ≡ b
one_limit o a b h g = cc

-- what was read of an input that is told and within its limit is that input
reads_told : (Went : Course → Type 0) (limits : Option ℕ) (limit : ℕ) (before after : Source) (input bytes : List ℕ) → limits ≡ Some limit → before.left ≡ Some input → Reads Went limits before after bytes → (input ≡ bytes) × (length bytes ≤ limit)
reads_told Went limits limit before after input bytes is told reads =
    let whole : ReadWhole Went limit before after bytes = subst (λ o. Reads Went o before after bytes) is reads in
    let P : Option (List ℕ) → Type 0 = λ left. Consumes left after.left bytes in
    (whole_of_known input after.left bytes (subst P told whole.taken) whole.ended, whole.short)

module _ (Went : Course → Type 0) (c : Call Went) (request : Request) (input : List ℕ) where
  -- a request that the words spell is this one
  of_request : (P : Request → Type 0) → IsHeard c request input → (r : Request) → Spells c.words r → P r → P request
  of_request P heard r spelled h = subst P (spelled_once c.words r request spelled heard.spelled) h

  -- the input that was read is the one that was told
  read_as_told : IsHeard c request input → (limit : ℕ) → limit_of request ≡ Some limit → (bytes : List ℕ) → Reads Went (limit_of request) c.before.source c.after.source bytes → input ≡ bytes
  read_as_told heard limit is bytes reads = (reads_told Went (limit_of request) limit c.before.source c.after.source input bytes is heard.told reads).0

  too_long_of_told : IsHeard c request input → IsOverLong Went (limit_of request) c.before.source c.after.source → IsLonger request input
  too_long_of_told heard long =
      let P : Option (List ℕ) → Type 0 = λ left. TakesCount left c.after.source.left (long.limit + 1) in
      let taken = count_of_known input c.after.source.left (long.limit + 1) (subst P heard.told long.taken) in
      (long.limit, long.is_limit, omega (arith, taken))

  within_or_longer : IsWithin request input → IsLonger request input → ⊥
  within_or_longer (m, is, short) (n, same, long) = omega (arith, one_limit (limit_of request) m n is same, short, long)

  -- what was read whole isn't longer than the limit
  not_longer : IsHeard c request input → (bytes : List ℕ) → Reads Went (limit_of request) c.before.source c.after.source bytes → IsLonger request input → ⊥
  not_longer heard bytes reads (limit, is, long) =
      let told = reads_told Went (limit_of request) limit c.before.source c.after.source input bytes is heard.told reads in
      omega (arith, long, told.1, ap length told.0)

  told_answer : IsHeard c request input → IsWithin request input → (bytes : List ℕ) (status : Status) (text : List ℕ) → Reads Went (limit_of request) c.before.source c.after.source bytes → Answers c.words request bytes status text → Answers c.words request input status text
  told_answer heard (limit, is, short) bytes status text reads answers =
      let P : List ℕ → Type 0 = λ i. Answers c.words request i status text in subst P (sym (read_as_told heard limit is bytes reads)) answers

  told_refusal : IsHeard c request input → IsWithin request input → (refusal : Refusal) → Refused c request refusal → Refuses c.words request input refusal
  told_refusal heard (limit, is, short) refusal refused =
      let P : List ℕ → Type 0 = λ i. Refuses c.words request i refusal in subst P (sym (read_as_told heard limit is refused.input refused.read)) refused.refuses

  -- an undisturbed run ends as its input is due
  pub ends_as_due : (end : Ending) → Ends c end → IsUndisturbed c request input → IsDue c.words request input (status_at end)
  ends_as_due (delivered status) (r, spelled, whole) calm =
      let mine = of_request (λ r. Delivered c r status) calm.heard r spelled whole in
      inl (mine.text, told_answer calm.heard calm.within mine.input status mine.text mine.read mine.answers)
  ends_as_due (stopped stops.Usage) ends calm = absurd (ends.0 request calm.heard.spelled)
  ends_as_due (stopped (stops.Refused refusal)) (r, spelled, refused) calm =
      let mine = of_request (λ r. Refused c r refusal) calm.heard r spelled refused in
      inr (inl (refusal, told_refusal calm.heard calm.within refusal mine, refl))
  ends_as_due (stopped stops.ReadFault) (r, spelled, fault) calm = absurd (calm.heard.read fault.0.rose)
  ends_as_due (stopped stops.WriteFault) (r, spelled, fault) calm = absurd (calm.write fault.0)
  ends_as_due (stopped stops.NoMemory) ends calm = inr (inr refl)
  ends_as_due (stopped stops.TooLong) (r, spelled, taken) calm =
      let mine = of_request (λ r. Stopped c r stops.TooLong) calm.heard r spelled taken in
      absurd (within_or_longer calm.within (too_long_of_told calm.heard mine.0))

  -- a refusal of the input is told, whatever the sink does
  pub ends_refused : (end : Ending) (refusal : Refusal) → Ends c end → IsHeard c request input → IsWithin request input → Refuses c.words request input refusal → IsByText refusal →
      IsUnlessNoMemory (refused_status refusal) (status_at end)
  ends_refused (delivered status) refusal (r, spelled, whole) heard short due by =
      let mine = of_request (λ r. Delivered c r status) heard r spelled whole in
      absurd (answers_or_refuses c.words request input status mine.text refusal by (told_answer heard short mine.input status mine.text mine.read mine.answers) due)
  ends_refused (stopped stops.Usage) refusal ends heard short due by = absurd (ends.0 request heard.spelled)
  ends_refused (stopped (stops.Refused other)) refusal (r, spelled, refused) heard short due by =
      let mine = of_request (λ r. Refused c r other) heard r spelled refused in
      inl (ap refused_status (refuses_once c.words request input other refusal by (told_refusal heard short other mine) due))
  ends_refused (stopped stops.ReadFault) refusal (r, spelled, fault) heard short due by = absurd (heard.read fault.0.rose)
  ends_refused (stopped stops.WriteFault) refusal (r, spelled, fault) heard short due by =
      let mine = of_request (λ r. Stopped c r stops.WriteFault) heard r spelled fault in
      let cut = mine.1 in
      absurd (answers_or_refuses c.words request input cut.status cut.text refusal by (told_answer heard short cut.input cut.status cut.text cut.read cut.answers) due)
  ends_refused (stopped stops.NoMemory) refusal ends heard short due by = inr refl
  ends_refused (stopped stops.TooLong) refusal (r, spelled, taken) heard short due by =
      let mine = of_request (λ r. Stopped c r stops.TooLong) heard r spelled taken in
      absurd (within_or_longer short (too_long_of_told heard mine.0))

  -- a longer input is told as that
  pub ends_longer : (end : Ending) → Ends c end → IsHeard c request input → IsLonger request input → IsUnlessNoMemory statuses.TooLong (status_at end)
  ends_longer (delivered status) (r, spelled, whole) heard long =
      let mine = of_request (λ r. Delivered c r status) heard r spelled whole in absurd (not_longer heard mine.input mine.read long)
  ends_longer (stopped stops.Usage) ends heard long = absurd (ends.0 request heard.spelled)
  ends_longer (stopped (stops.Refused refusal)) (r, spelled, refused) heard long =
      let mine = of_request (λ r. Refused c r refusal) heard r spelled refused in absurd (not_longer heard mine.input mine.read long)
  ends_longer (stopped stops.ReadFault) (r, spelled, fault) heard long = absurd (heard.read fault.0.rose)
  ends_longer (stopped stops.WriteFault) (r, spelled, fault) heard long =
      let mine = of_request (λ r. Stopped c r stops.WriteFault) heard r spelled fault in
      let cut = mine.1 in absurd (not_longer heard cut.input cut.read long)
  ends_longer (stopped stops.NoMemory) ends heard long = inr refl
  ends_longer (stopped stops.TooLong) ends heard long = inl refl

-- nothing was said
pub says_nothing : (view : ErrView) → Says view view []
says_nothing view = record {
  front = (0, omega arith, Appends-nil view.wrote);
  whole = λ _ _. Appends-nil view.wrote;
}
