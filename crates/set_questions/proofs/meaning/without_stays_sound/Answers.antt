use Rattle.set_questions.proofs.Changing.{stays-fit, stays-sound}
use Rattle.set_questions.proofs.meaning.without_stays_sound.Goals as goal

pub returns : goal.returns
returns c = λ set name. record { sound = stays-sound set name; fits = λ schema fits. stays-fit schema set name fits }
