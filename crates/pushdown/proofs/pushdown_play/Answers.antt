use mathlib.Core.Path.{refl, ap, ◌∙◌}
use Rattle.session.specs.declared.playing.Session.{Session}
use Rattle.session.specs.Session.{move}
use Rattle.pushdown.proofs.Telling.{play-wrong-session, play-wrong, play-done, play-refused, one-word}
use Rattle.pushdown.proofs.pushdown_play.Goals as goal

pub returns-then-session-ne-SESSION_BYTES : goal.returns-then-session-ne-SESSION_BYTES
returns-then-session-ne-SESSION_BYTES c = play-wrong-session _ _ _ _ c.if-session-ne-SESSION_BYTES.true

pub returns-then-out-ne-PLAY_WORDS : goal.returns-then-out-ne-PLAY_WORDS
returns-then-out-ne-PLAY_WORDS c = play-wrong _ _ _ _ c.if-out-ne-PLAY_WORDS.true

pub returns-in-Ok : goal.returns-in-Ok
returns-in-Ok c =
    play-done _ _ _ _ c.if-session-ne-SESSION_BYTES.false c.if-out-ne-PLAY_WORDS.false _ _
    (c.play.ensures ∙ ap (λ (s : Session). move c.args.file.now s c.args.rule) c.session_of-played.ensures)
    _ c.in-Ok.is c.store.ensures (one-word _ _ c.if-out-ne-PLAY_WORDS.false)

pub returns-in-Err : goal.returns-in-Err
returns-in-Err c =
    rw (c.refuse.ensures.told, c.refuse.ensures.written, c.if-out-ne-PLAY_WORDS.false)
    (play-refused _ _ _ _ c.if-session-ne-SESSION_BYTES.false c.if-out-ne-PLAY_WORDS.false _ _
    (c.play.ensures ∙ ap (λ (s : Session). move c.args.file.now s c.args.rule) c.session_of-played.ensures)
    _ c.in-Err.is refl)
