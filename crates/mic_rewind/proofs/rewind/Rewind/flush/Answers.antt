use Rattle.mic_rewind.proofs.rewind.Rewind.flush.Goals as goal

pub returns-clause-empty : goal.returns-clause-empty
returns-clause-empty g c =
    rw (← c.self.view_is)
    (λ none. let same = c.flush.ensures.empty none in (same.0, (λ i. record { board = same.1 i; history = c.self.inside.history }), same.2))

pub returns-clause-flushed : goal.returns-clause-flushed
returns-clause-flushed g c = rw (← c.self.view_is) c.flush.ensures.flushed
