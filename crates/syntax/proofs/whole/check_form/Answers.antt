use Rattle.std.proofs.Common.{sym, ◌∙◌}
use Rattle.syntax.proofs.Models.{accepts, completes}
use Rattle.syntax.proofs.whole.check_form.Goals as goal

pub returns : goal.returns
returns c =
    let text = c.args.text.now in
    let value = c.read_model.ensures in
    record {
      value = value;
      accepts = λ h. accepts text (sym value ∙ h);
      completes = λ f. value ∙ completes text f;
    }
